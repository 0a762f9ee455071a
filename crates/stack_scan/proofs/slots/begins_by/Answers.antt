-- The first range that ends above the word decides.
use Rattle.std.proofs.Common.{arith, sym}
use Rattle.stack_scan.proofs.TargetLaws.{past_all, by_first}
use Rattle.stack_scan.proofs.slots.begins_by.Goals as goal

pub returns-then-first-ranges : goal.returns-then-first-ranges
returns-then-first-ranges c =
    sym (past_all c.args.word c.args.ranges.now (λ k d l m. c.requires.ends.below k d l (omega arith)))

pub returns : goal.returns
returns c =
    let e = c.requires.ends in
    let within = e.bound in
    sym (by_first c.args.word c.args.first _ c.args.ranges.now c.requires.order (omega arith) e.below e.above)
