use Rattle.run_pre_match.proofs.Alike.{same_outcome}
use Rattle.run_pre_match.proofs.AlikeRuns.{same_body_at, same_body_of}
use Rattle.run_pre_match.proofs.laws.alike_memories_match_alike.Goals as goal

pub returns-clause-outcome : goal.returns-clause-outcome
returns-clause-outcome c = λ candidate contents alike inside. same_outcome candidate contents alike inside

pub returns-clause-body : goal.returns-clause-body
returns-clause-body c = λ candidate contents alike. same_body_of candidate contents alike

pub returns-clause-body_at : goal.returns-clause-body_at
returns-clause-body_at c = λ pre a b base alike. same_body_at pre a b base alike
