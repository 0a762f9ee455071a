-- The sections before this one are gone through.
use Rattle.match_candidates.proofs.CodeLaws.{Passed}
use Rattle.match_candidates.proofs.codes.all_codes.Given as goal

abbrev pub invariant-loop-place : goal.invariant-loop-place
invariant-loop-place l = Passed l.object l.section-items l.codes l.place
