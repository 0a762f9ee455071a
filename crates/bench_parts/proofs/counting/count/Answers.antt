use Rattle.std.proofs.Common.{rules}
use Rattle.bench_parts.proofs.Steps.{instruction_met, byte_passed, all_met}
use Rattle.bench_parts.proofs.counting.count.Goals as goal

pub loop-rest-preserved-in-Some : goal.loop-rest-preserved-in-Some
loop-rest-preserved-in-Some c =
    instruction_met _ _ _ _ _ c.loop-rest.invariant c.in-Some.ensures.exact c.in-Some.ensures.some_bytes
    c.in-Some.ensures.within

pub loop-rest-preserved : goal.loop-rest-preserved
loop-rest-preserved c = byte_passed _ _ _ _ c.loop-rest.invariant c.in-None.ensures.exact (search rules)

pub returns-clause-meets : goal.returns-clause-meets
returns-clause-meets c = all_met _ _ _ _ c.loop-rest.invariant (search rules)
