use Rattle.std.proofs.Common.{◌-◌, length, arith}
use Rattle.bench_parts.proofs.Halving.{below_all, above_all}
use Rattle.bench_parts.proofs.searching.is_within_bounds.Goals as goal

pub returns-then-ranges-word : goal.returns-then-ranges-word
returns-then-ranges-word c =
    above_all c.args.ranges.now c.requires c.args.word (length c.args.ranges.now - 1) _ (grind arith)

pub returns-else-ranges-word : goal.returns-else-ranges-word
returns-else-ranges-word c = below_all c.args.ranges.now c.requires c.args.word _
