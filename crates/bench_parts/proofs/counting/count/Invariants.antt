use Rattle.std.proofs.Common.{length}
use Rattle.bench_parts.proofs.Steps.{MetBefore}
use Rattle.bench_parts.proofs.counting.count.Given as goal

abbrev pub invariant-loop-rest : goal.invariant-loop-rest
invariant-loop-rest l = MetBefore l.fn.bytes l.rest l.tally.instructions l.tally.undecoded

abbrev pub decreases-loop-rest : goal.decreases-loop-rest
decreases-loop-rest l = length l.rest
