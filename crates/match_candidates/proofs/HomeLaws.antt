-- Homes, and sections that have none.
use Rattle.std.proofs.Common.{◌≡◌, ℕ, suc, true, false, List, [], ◌∷◌, length, Some, None, map, refl, arith}
use Rattle.std.specs.Prelude.{◌==◌}
use Rattle.std.proofs.lemmas.Bool.{eqb-true, eq-eqb}
use Rattle.ks_base.specs.declared.refusals.Refusal.TheVariants.{NoCandidate}
use Rattle.i386_reloc.specs.Normal.{function_name}
use Rattle.run_pre_match.specs.Candidate.{Candidate}
use Rattle.run_pre_match.specs.Matched.{PreSection}
use Rattle.match_candidates.specs.OwnFaults.{missing_in}

pub missing_empty : (pre : PreSection) (f : ℕ → Candidate) (homes : List ℕ) → (length homes == 0) ≡ true
    → missing_in pre (map f homes) ≡ Some (NoCandidate (function_name pre.section))
missing_empty pre f [] empty = refl
missing_empty pre f (h ∷ hs) empty = let e : suc (length hs) ≡ 0 = eqb-true (suc (length hs)) 0 empty in absurd
    (omega arith)

pub missing_full : (pre : PreSection) (f : ℕ → Candidate) (homes : List ℕ) → (length homes == 0) ≡ false
    → missing_in pre (map f homes) ≡ None
missing_full pre f [] full = cc (eq-eqb 0 0 refl)
missing_full pre f (h ∷ hs) full = refl
