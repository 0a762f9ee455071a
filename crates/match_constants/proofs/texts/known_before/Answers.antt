use Rattle.std.proofs.Common.{sym, ◌∙◌}
use Rattle.match_constants.proofs.texts.known_before.Goals as goal

pub returns-in-Some : goal.returns-in-Some
returns-in-Some c = λ object pieces endings all.
    c.known_by.ensures object pieces c.args.address endings
    (all.each c.args.address c.in-Some.best (sym c.known_at.ensures ∙ c.in-Some.is))
