use Rattle.std.proofs.Common.{◌≡◌, ◌∙◌, ◌++◌, codes, ap}
use Rattle.std.proofs.lemmas.Result.{IfOk-equal}
use Rattle.ks_base.specs.Text.{number_text}
use Rattle.work_gen.specs.Script.{four_spawns, files_of_update, update_line, update_lines}
use Rattle.work_gen.proofs.AppendLaws.{regroup_lines}
use Rattle.work_gen.proofs.script.put_update.Goals as goal

pub returns : goal.returns
unfolding update_lines update_line
returns c =
    let script = c.args.script.now in
    let k = c.args.k in
    let files = files_of_update k in
    let rest = codes " " ++ files ++ codes " tries 16 gap 4096\nrr 64 16777216\n" in
    let whole = regroup_lines script (four_spawns ++ codes "rr 1 100\napply u") (number_text k) (codes " ") files
    (codes " tries 16 gap 4096\n") (codes "rr 64 16777216\n") in
    let same : c.put_number.new.self ++ c.rest_of_update.result.now ≡ script ++ update_lines k =
    ap (λ l. c.put_number.new.self ++ l) c.rest_of_update.ensures
    ∙ ap (λ l. l ++ rest) c.in_ok-put_number.ensures.ok
    ∙ ap (λ n. (c.put_text.new.self ++ number_text n) ++ rest) c.from.ensures
    ∙ ap (λ l. (l ++ number_text k) ++ rest) c.in_ok-put_text.ensures.ok
    ∙ whole in
    IfOk-equal c.put_text-2.result _ _ _ c.put_text-2.ensures.ok same
