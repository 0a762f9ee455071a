use Rattle.std.proofs.Common.{ℕ, Some, None, rules, ap, ◌∙◌}
use Rattle.symbol_solve.specs.inside.Reported.{unmet_conflict}
use Rattle.symbol_solve.proofs.Bodies.{unmet_found}
use Rattle.symbol_solve.proofs.report.first_unmet_at.Goals as goal

pub returns-in_default : goal.returns-in_default
returns-in_default g c =
    unmet_found c.args.held.now.code.now (g.S.Space.contents c.args.space.now) c.args.held.now.tried.now.base
    c.in_ok-body.body c.args.interiors.now None (search rules) (search rules)

pub returns : goal.returns
returns g c =
    ap (λ (n : ℕ). Some (unmet_conflict c.in-Some.interior.now n)) c.address_of-address.ensures
    ∙ unmet_found c.args.held.now.code.now (g.S.Space.contents c.args.space.now) c.args.held.now.tried.now.base
    c.in_ok-body.body c.args.interiors.now (Some c.in-Some.interior.now) (search rules) (search rules)
