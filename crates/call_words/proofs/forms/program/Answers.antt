use Rattle.std.proofs.Common.{codes}
use Rattle.std.proofs.lemmas.Result.{IfOk-weaker}
use Rattle.call_words.specs.inside.Forms.{form_of_several, form_of_two}
use Rattle.call_words.proofs.Building.{has_more}
use Rattle.call_words.proofs.forms.program.Goals as goal

pub returns : goal.returns
returns c =
    let diff = has_more c.bare_program.result c.in_ok-program.program _ (form_of_two (codes "diff") (codes "pre") (codes "post"))
    c.bare_program.ensures c.in_ok-program.ensures in
    let code = has_more c.in_ok-program.program c.in_ok-program-2.program _ (form_of_two (codes "code") (codes "image") (codes "name"))
    diff c.in_ok-program-2.ensures in
    let match = has_more c.in_ok-program-2.program c.in_ok-program-3.program _ (form_of_two (codes "match") (codes "image") (codes "pre"))
    code c.in_ok-program-3.ensures in
    let run = has_more c.in_ok-program-3.program c.in_ok-program-4.program _ (form_of_two (codes "run") (codes "image") (codes "script"))
    match c.in_ok-program-4.ensures in
    let gen = has_more c.in_ok-program-4.program c.in_ok-program-5.program _ (form_of_several (codes "gen") (codes "number") 1)
    run c.in_ok-program-5.ensures in
    IfOk-weaker c.with_words-2.result _ _
    (λ new adds. has_more c.in_ok-program-5.program new _ (form_of_several (codes "link") (codes "objects") 16) gen adds) c.with_words-2.ensures
