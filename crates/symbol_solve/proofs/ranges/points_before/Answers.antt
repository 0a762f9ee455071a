use Rattle.std.proofs.Common.{sym}
use Rattle.symbol_solve.specs.inside.Points.{is_before}
use Rattle.symbol_solve.proofs.RangeLaws.{kept_before}
use Rattle.symbol_solve.proofs.ranges.points_before.Goals as goal

pub returns : goal.returns
returns c =
    sym (kept_before (is_before c.args.points.now c.args.high)
    c.args.own.now c.count_before-count.result c.count_before-count.ensures.point)
