use Rattle.std.proofs.Common.{rules, arith}
use Rattle.stack_scan.specs.Standing.{in_one}
use Rattle.bench_parts.proofs.Halving.{position_some, position_none}
use Rattle.bench_parts.proofs.searching.first_by_halving.Goals as goal

pub returns-then-is_in_one : goal.returns-then-is_in_one
returns-then-is_in_one c =
    position_some (in_one c.args.ranges.now) c.args.words.now c.loop-index.index
    (omega arith) c.loop-index.invariant (search rules)

pub returns : goal.returns
returns c =
    position_none (in_one c.args.ranges.now) c.args.words.now (λ k l. c.loop-index.invariant k (omega arith))
