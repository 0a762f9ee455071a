-- The first range that ends above the word decides.
use Rattle.std.proofs.Common.{arith, sym}
use Rattle.bench_parts.proofs.Halving.{past_all, by_first}
use Rattle.bench_parts.proofs.searching.is_in_one.Goals as goal

pub returns-then-first-ranges : goal.returns-then-first-ranges
returns-then-first-ranges c =
    sym (past_all c.args.ranges.now c.requires c.args.word
    (λ k d l m. c.ended-first.ensures.below k d l (omega arith)))

pub returns : goal.returns
returns c =
    let e = c.ended-first.ensures in
    let within = e.bound in
    sym (by_first c.args.ranges.now c.requires c.args.word c.ended-first.result _ (omega arith) e.below e.above)
