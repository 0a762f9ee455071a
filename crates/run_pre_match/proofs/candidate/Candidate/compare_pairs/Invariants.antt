-- The pairs so far agree; what their fields give is kept, and what they say is added.
use Rattle.run_pre_match.proofs.PairLaws.{ComparedTo}
use Rattle.run_pre_match.proofs.candidate.Candidate.compare_pairs.Given as goal

abbrev pub invariant-loop-k : goal.invariant-loop-k
invariant-loop-k g l = ComparedTo l.self l.fn.said l.said l.values l.k
