-- Those that stand in a body lie where it lies.
use Rattle.std.proofs.Common.{◌+◌, rules}
use Rattle.run_pre_match.specs.Bodies.{body_at}
use Rattle.symbol_solve.proofs.RangeLaws.{none_met, some_met}
use Rattle.symbol_solve.proofs.choices.met.Goals as goal

pub returns-then-is_empty : goal.returns-then-is_empty
returns-then-is_empty g c = λ lies.
    none_met c.args.points.now (body_at c.args.code.now (g.S.Space.contents c.args.space.now) c.args.base) c.args.base
    (c.args.base + c.args.length) lies
    c.args.own.now c.points_within-own.result.now c.new.result c.points_within-own.ensures (search rules) (search rules)

pub returns : goal.returns
returns g c = λ lies.
    some_met c.args.points.now (body_at c.args.code.now (g.S.Space.contents c.args.space.now) c.args.base) c.args.base
    (c.args.base + c.args.length) lies
    c.args.own.now c.points_within-own.result.now
    c.in_ok-body.body c.standing.result c.points_within-own.ensures c.in_ok-body.ensures c.standing.ensures
