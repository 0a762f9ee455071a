-- Where a refusal says that there is no solution, there is none.
use Rattle.std.proofs.Common.{◌≡◌, ℕ, List, [], ◌∷◌, length, true, false, cond, eqb, Option, Some, None, refl, subst}
use Rattle.std.specs.Option.{option_map, option_or}
use Rattle.ks_base.specs.declared.refusals.Refusal.{Refusal}
use Rattle.ks_base.specs.declared.refusals.Refusal.TheVariants.{Mismatch, Ambiguous, Conflict, PreUndecoded}
use Rattle.i386_reloc.specs.declared.types.NormalSection.{NormalSection}
use Rattle.run_pre_match.specs.Candidate.{Candidate}
use Rattle.run_pre_match.specs.Matched.{PreSection}
use Rattle.match_instructions.specs.Landing.{undecoded_offset}
use Rattle.propagation.specs.Conflicts.{first_some}
use Rattle.match_candidates.specs.Candidates.{Running, candidates, candidates_of, code_sections}
use Rattle.match_candidates.specs.OwnFaults.{undecoded_in, first_undecoded, missing_in}
use Rattle.match_candidates.specs.OwnFaults.{first_missing, first_mismatch, own_fault}
use Rattle.symbol_solve.specs.Conflicts.{reported}
use Rattle.symbol_solve.specs.Solve.{twins, first_twins, left_of, obstacle}
use Rattle.symbol_solve.specs.Solution.{IsSolution}
use Rattle.symbol_solve.proofs.SolutionLaws.{none_reported, none_mismatched}

module _ (N : Type 0) where
  -- what a refusal says, where it says it
  abbrev pub Means : Refusal → Type 0
  Means (Mismatch name difference) = N
  Means (Conflict name a b one other) = N
  Means refusal = Unit {0}

  abbrev pub MeansOf : Option Refusal → Type 0
  MeansOf None = Unit {0}
  MeansOf (Some refusal) = Means refusal

  means_any : N → (refusal : Refusal) → Means refusal
  means_any so (Mismatch name difference) = so
  means_any so (Conflict name a b one other) = so
  means_any so refusal = tt

  either_means : (a b : Option Refusal) → MeansOf a → MeansOf b → MeansOf (option_or a b)
  either_means None b one two = two
  either_means (Some refusal) b one two = one

  first_means : {X : Type 0} (f : X → Option Refusal) (xs : List X)
      → ((x : X) → MeansOf (f x)) → MeansOf (first_some f xs)
  unfolding first_some
  first_means f [] each = tt
  first_means f (x ∷ xs) each = either_means (f x) (first_some f xs) (each x) (first_means f xs each)

  so_means : (o : Option Refusal) → ((refusal : Refusal) → o ≡ Some refusal → N) → MeansOf o
  so_means None so = tt
  so_means (Some refusal) so = means_any (so refusal refl) refusal

  undecoded_means : (pre : PreSection) → MeansOf (undecoded_in pre)
  undecoded_means pre = by (undecoded_offset pre.object pre.section)
    where
      by : (o : Option ℕ) → MeansOf (option_map (PreUndecoded pre.section.name) o)
      by None = tt
      by (Some offset) = tt

  missing_means : (pre : PreSection) (cs : List Candidate) → MeansOf (missing_in pre cs)
  missing_means pre [] = tt
  missing_means pre (c ∷ cs) = tt

  two_means : (c d : Candidate) → MeansOf (twins c d)
  two_means c d =
      elim (eqb c.place d.place) as (λ b. MeansOf (cond b (Some (Ambiguous c.section.name c.home d.home)) None))
      [ true ↦ tt | false ↦ tt ]

  twins_mean : (cs : List Candidate) → MeansOf (first_twins cs)
  unfolding first_twins
  twins_mean [] = tt
  twins_mean (c ∷ []) = tt
  twins_mean (c ∷ d ∷ rest) =
      either_means (twins c d) (first_twins (d ∷ rest)) (two_means c d) (twins_mean (d ∷ rest))

module _ (running : Running) (object : List NormalSection) where
  abbrev pub NoSolution : Type 0
  NoSolution = (chosen : List Candidate) → IsSolution running object chosen → ⊥

  own_means : MeansOf NoSolution (own_fault running object)
  unfolding own_fault
  own_means =
      either_means NoSolution
      (first_undecoded object) (option_or (first_missing running object) (first_mismatch running object))
      (first_means NoSolution undecoded_in (code_sections object) (undecoded_means NoSolution))
      (either_means NoSolution (first_missing running object) (first_mismatch running object)
      (first_means NoSolution (λ pre. missing_in pre (candidates_of running pre))
      (code_sections object) (λ pre. missing_means NoSolution pre (candidates_of running pre)))
      (so_means NoSolution (first_mismatch running object)
      (λ refusal is chosen it. none_mismatched running object chosen it refusal is)))

  obstacle_means : MeansOf NoSolution (obstacle running object)
  unfolding obstacle
  obstacle_means =
      let report : Option Refusal = reported (length object) (candidates running object) in
      either_means NoSolution
      (own_fault running object) (option_or report (first_twins (left_of running object))) own_means
      (either_means NoSolution report (first_twins (left_of running object))
      (so_means NoSolution report
      (λ refusal is chosen it. none_reported running object chosen it (length object) refusal is))
      (twins_mean NoSolution (left_of running object)))

  pub refused_means : (refusal : Refusal) → obstacle running object ≡ Some refusal → Means NoSolution refusal
  refused_means refusal is = subst (MeansOf NoSolution) is obstacle_means
