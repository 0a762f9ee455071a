use Rattle.std.proofs.Common.{ap, ◌∙◌}
use Rattle.std.specs.Option.{option_copied}
use Rattle.std.specs.Ordering.{nat_cmp}
use Rattle.std.specs.Cmp.Lexicographic.{slice_cmp}
use Rattle.std.specs.BTreeMap.{get_by}
use Rattle.std.proofs.lemmas.Map.Text.{btree_map_updates_str}
use Rattle.i386_reloc.specs.Normal.{same_bytes}
use Rattle.update_pieces.proofs.OldNames.{copied_choice}
use Rattle.update_pieces.proofs.olds.put_old.Goals as goal

pub returns : goal.returns
returns c = λ q.
    let name = c.args.name.now in
    let before = c.args.by_section.now in
    ap option_copied (btree_map_updates_str name before c.insert.new.self _ c.in_ok-insert.ensures.updates q)
    ∙ copied_choice (same_bytes name q) c.args.old (get_by (λ k. slice_cmp nat_cmp q k.now) before)
