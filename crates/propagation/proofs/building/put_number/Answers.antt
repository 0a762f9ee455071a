use Rattle.std.proofs.Common.{sym, subst, List, Option, ℕ}
use Rattle.propagation.specs.inside.Engine.{AreListed}
use Rattle.propagation.proofs.BuildLaws.{pushed_has, listed_more}
use Rattle.propagation.proofs.building.put_number.Goals as goal

pub returns-clause-listed : goal.returns-clause-listed
returns-clause-listed c =
    let P : List (Option ℕ) → Type 0 = λ l. AreListed l c.push.new.self in
    subst P (sym c.set.ensures) (listed_more c.args.listed.now
    c.args.table.now c.push.new.self c.args.demand.section c.args.demand.number c.in_ok-push.ensures c.requires)

pub returns-clause-put : goal.returns-clause-put
returns-clause-put c =
    λ _. pushed_has c.args.table.now c.push.new.self c.args.demand.section c.args.demand.number c.in_ok-push.ensures
