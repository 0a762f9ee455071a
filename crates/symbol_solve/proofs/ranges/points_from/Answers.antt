use Rattle.std.proofs.Common.{sym, ◌∙◌}
use Rattle.std.proofs.lemmas.List.{take_rest}
use Rattle.symbol_solve.specs.inside.Points.{is_before}
use Rattle.symbol_solve.proofs.RangeLaws.{kept_from}
use Rattle.symbol_solve.proofs.ranges.points_from.Goals as goal

pub returns-clause-points : goal.returns-clause-points
returns-clause-points c =
    take_rest c.args.own.now c.count_before-count.result
    ∙ sym (kept_from (is_before c.args.points.now c.args.low)
    c.args.own.now c.count_before-count.result c.count_before-count.ensures.point)
