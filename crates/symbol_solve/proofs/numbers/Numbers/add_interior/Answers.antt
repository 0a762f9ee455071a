-- The inserted point is the interior's.
use Rattle.std.proofs.Common.{subst, sym, Contains}
use Rattle.indexmap.proofs.CallerLemmas.{Contains-insert_key}
use Rattle.symbol_solve.specs.contracts.numbers.PointPartialEq.TheImpl as points
use Rattle.symbol_solve.proofs.NumberLaws.{equal_point, point_numbered}
use Rattle.symbol_solve.proofs.numbers.Numbers.add_interior.Goals as goal

pub returns-in_ok-insert-clause-numbered : goal.returns-in_ok-insert-clause-numbered
returns-in_ok-insert-clause-numbered c =
    let own = c.in-Some.point in
    point_numbered c.args.object.now (record {
      unknowns = c.self.inside.unknowns.keys;
      points = c.insert.new.self.keys;
    }) c.args.interior.now own c.in-Some.ensures
    (subst (λ keys. Contains keys own) (sym c.in_ok-insert.ensures.keys)
    (Contains-insert_key (points.eq-value).it equal_point c.self.inside.points.keys own))
