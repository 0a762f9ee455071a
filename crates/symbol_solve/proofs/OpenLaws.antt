-- What may be refused where there is a solution.
use Rattle.std.proofs.Common.{arith, ◌≡◌, inl, inr, ℕ, Bool, true, false, cond, eqb, List, [], ◌∷◌, length}
use Rattle.std.proofs.Common.{Option, Some, None, refl, sym, subst}
use Rattle.std.specs.Prelude.{◌≢◌}
use Rattle.std.specs.List.{filter}
use Rattle.std.specs.Option.{option_map, option_or}
use Rattle.std.proofs.lemmas.Bool.{eqb-true}
use Rattle.ks_base.specs.declared.refusals.Refusal.{Refusal}
use Rattle.ks_base.specs.declared.refusals.Refusal.TheVariants.{Ambiguous, PreUndecoded}
use Rattle.i386_reloc.specs.declared.types.NormalSection.{NormalSection}
use Rattle.match_instructions.specs.Landing.{undecoded_offset}
use Rattle.propagation.specs.Conflicts.{first_some}
use Rattle.propagation.specs.Rounds.{remaining}
use Rattle.run_pre_match.specs.Candidate.{Candidate}
use Rattle.run_pre_match.specs.Matched.{PreSection}
use Rattle.match_candidates.specs.Candidates.{Running, candidates, candidates_of, code_sections}
use Rattle.match_candidates.specs.OwnFaults.{undecoded_in, first_undecoded, missing_in, first_missing, first_mismatch}
use Rattle.match_candidates.specs.OwnFaults.{own_fault}
use Rattle.symbol_solve.specs.Clashes.{candidate_rules}
use Rattle.symbol_solve.specs.Conflicts.{reported}
use Rattle.symbol_solve.specs.Solve.{twins, first_twins, left_of, obstacle}
use Rattle.symbol_solve.specs.Solution.{IsChoice, IsSolution}
use Rattle.symbol_solve.specs.Assignment.{IsOpen, NotDecoded, TwoLeft}
use Rattle.symbol_solve.proofs.Members.{Has, has_of, contained, all_has, all_of, filter_has, beside_left, first_from}
use Rattle.symbol_solve.proofs.OrderLaws.{Before, Ordered, candidates_ordered}
use Rattle.symbol_solve.proofs.RemainLaws.{kept_in}
use Rattle.symbol_solve.proofs.SolutionLaws.{none_mismatched, none_reported}
use Rattle.symbol_solve.proofs.SolvedLaws.{none_of}

ordered_filter : {X : Type 0} (R : X → X → Type 0) (p : X → Bool) (xs : List X) → Ordered R xs
    → Ordered R (filter p xs)
ordered_filter R p [] order = tt
ordered_filter R p (x ∷ xs) order =
    elim (p x) as (λ b. Ordered R (cond b (x ∷ filter p xs) (filter p xs))) [
      | true ↦ (
        all_of (R x) (filter p xs) (λ y has. all_has (R x) xs y order.0 (filter_has p xs y has).0),
        ordered_filter R p xs order.1,
      )
      | false ↦ ordered_filter R p xs order.1
    ]

not_missing : (pre : PreSection) (cs : List Candidate) (e : Candidate) (refusal : Refusal) → Has cs e
    → missing_in pre cs ≡ Some refusal → ⊥
not_missing pre [] e refusal has is = absurd has
not_missing pre (c ∷ cs) e refusal has is = absurd cc

module _ (running : Running) (object : List NormalSection) where
  abbrev AreOpen : Option Refusal → Type 0
  AreOpen None = Unit {0}
  AreOpen (Some refusal) = IsOpen running object refusal

  either_open : (a b : Option Refusal) → AreOpen a → AreOpen b → AreOpen (option_or a b)
  either_open None b one two = two
  either_open (Some refusal) b one two = one

  first_open : {X : Type 0} (f : X → Option Refusal) (xs : List X) → ((x : X) → AreOpen (f x))
      → AreOpen (first_some f xs)
  unfolding first_some
  first_open f [] each = tt
  first_open f (x ∷ xs) each = either_open (f x) (first_some f xs) (each x) (first_open f xs each)

  none_open : (o : Option Refusal) → o ≡ None → AreOpen o
  none_open o none = subst AreOpen (sym none) tt

  undecoded_open : (pre : PreSection) → AreOpen (undecoded_in pre)
  undecoded_open pre = by (undecoded_offset pre.object pre.section)
    where
      by : (o : Option ℕ) → AreOpen (option_map (PreUndecoded pre.section.name) o)
      by None = tt
      by (Some offset) = NotDecoded pre.section.name offset

  -- two neighbours of one section have two homes
  two_homes : (c d : Candidate) → Before c d → c.place ≡ d.place → c.home ≢ d.home
  two_homes c d (inl less) place = λ e. omega (arith, less, place)
  two_homes c d (inr (same, less)) place = λ e. omega (arith, less, e)

  two_open : (c d : Candidate) → Has (left_of running object) c → Has (left_of running object) d → Before c d
      → (b : Bool) → eqb c.place d.place ≡ b
      → AreOpen (cond b (Some (Ambiguous c.section.name c.home d.home)) None)
  two_open c d has_c has_d before false at = tt
  two_open c d has_c has_d before true at =
      let place : c.place ≡ d.place = eqb-true c.place d.place at in
      TwoLeft c d (contained (left_of running object) c has_c) (contained (left_of running object) d has_d) place
      (two_homes c d before place)

  twins_open : (cs : List Candidate) → Ordered Before cs
      → ((c : Candidate) → Has cs c → Has (left_of running object) c) → AreOpen (first_twins cs)
  unfolding first_twins
  twins_open [] order all = tt
  twins_open (c ∷ []) order all = tt
  twins_open (c ∷ d ∷ rest) order all =
      either_open (twins c d) (first_twins (d ∷ rest))
      (two_open c d (all c (inl refl)) (all d (inr (inl refl)))
      (all_has (Before c) (d ∷ rest) d order.0 (inl refl)) (eqb c.place d.place) refl)
      (twins_open (d ∷ rest) order.1 (λ x has. all x (inr has)))

  left_ordered : Ordered Before (left_of running object)
  unfolding remaining
  left_ordered =
      let (q, kept) = kept_in candidate_rules (length (candidates running object)) (candidates running object) in
      subst (Ordered Before) (sym kept)
      (ordered_filter Before q (candidates running object) (candidates_ordered running object))

  module _ (chosen : List Candidate) (it : IsSolution running object chosen) where
    -- each section has a candidate
    pub none_missing : first_missing running object ≡ None
    none_missing =
        none_of (first_missing running object) (λ refusal is.
        let (pre, has_pre, found) =
        first_from (λ (p : PreSection). missing_in p (candidates_of running p)) (code_sections object) refusal is in
        let (e, has_e, choice) = beside_left (IsChoice running) (code_sections object) chosen pre it.choice has_pre in
        not_missing pre (candidates_of running pre) e refusal (has_of (candidates_of running pre) e choice.among) found)

    own_open : AreOpen (own_fault running object)
    unfolding own_fault
    own_open =
        either_open (first_undecoded object) (option_or (first_missing running object) (first_mismatch running object))
        (first_open undecoded_in (code_sections object) undecoded_open)
        (either_open (first_missing running object) (first_mismatch running object)
        (none_open (first_missing running object) none_missing)
        (none_open (first_mismatch running object)
        (none_of (first_mismatch running object) (none_mismatched running object chosen it))))

    obstacle_open : AreOpen (obstacle running object)
    unfolding obstacle
    obstacle_open =
        let report : Option Refusal = reported (length object) (candidates running object) in
        either_open (own_fault running object) (option_or report (first_twins (left_of running object))) own_open
        (either_open report (first_twins (left_of running object))
        (none_open report (none_of report (none_reported running object chosen it (length object))))
        (twins_open (left_of running object) left_ordered (λ c has. has)))

    pub refused_open : (refusal : Refusal) → obstacle running object ≡ Some refusal → IsOpen running object refusal
    refused_open refusal is = subst AreOpen is obstacle_open
