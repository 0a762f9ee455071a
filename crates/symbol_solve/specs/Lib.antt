-- Public clauses cite Solve (what is answered), by Clashes (which candidates can't be chosen together) and Conflicts
-- (what is reported of two that must be chosen and clash), Solution (what a solution is), Assignment (the same by the
-- addresses that it gives) and Answered (what an answer tells of a code section). What `inside` holds is the code's own.
pub mod Clashes
pub mod Conflicts
pub mod Solve
pub mod Solution
pub mod Answered
pub mod Assignment
pub mod inside
-- Definitions of crates below that other rooms cite, and that come through this one.
pub use Rattle.match_candidates.specs.Alike
pub use Rattle.match_candidates.specs.Candidates
pub use Rattle.match_constants.specs.Constants
pub use Rattle.run_pre_match.specs.Alike as MatchAlike
pub use Rattle.run_pre_match.specs.Candidate
pub use Rattle.run_pre_match.specs.Differences
pub use Rattle.run_pre_match.specs.Found
pub use Rattle.run_pre_match.specs.Matched
pub use Rattle.run_pre_match.specs.declared.types.Claim
pub use Rattle.run_pre_match.specs.declared.types.MatchFault
pub use Rattle.run_pre_match.specs.declared.types.Matched as MatchedType
