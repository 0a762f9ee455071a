-- What solving stands on: what is tried is of listed code, and what is left is what the marks pick out.
use Rattle.std.proofs.Common.{arith, ◌≡◌, ◌⊎◌, inl, inr, ℕ, ◌<◌, Bool, true, false, ◌&&◌, eqb, List}
use Rattle.std.proofs.Common.{[], ◌∷◌, length, map, Option, Some, None, refl, sym, ap, subst, ◌∙◌}
use Rattle.std.specs.List.{All, AllZip}
use Rattle.std.specs.Option.{option_or, option_and_then}
use Rattle.std.specs.Prelude.{Ok, Err}
use Rattle.std.proofs.lemmas.Bool.{eq-eqb, ne_eqb}
use Rattle.std.proofs.lemmas.List.Elements.{All-nil, All-cons, All-weaker}
use Rattle.std.proofs.lemmas.Option.{slice_get_within}
use Rattle.ks_base.specs.declared.refusals.Refusal.{Refusal}
use Rattle.i386_reloc.specs.declared.types.NormalSection.{NormalSection}
use Rattle.run_pre_match.specs.Candidate.{Candidate}
use Rattle.run_pre_match.specs.Matched.{PreSection}
use Rattle.match_candidates.specs.declared.trials.Tried.{Tried}
use Rattle.match_candidates.specs.Candidates.{Running, code_sections, candidates}
use Rattle.match_candidates.specs.OwnFaults.{IsTried, AreTried}
use Rattle.propagation.specs.Rounds.{remaining, forced, is_among}
use Rattle.propagation.specs.Conflicts.{conflict}
use Rattle.symbol_solve.specs.Clashes.{same_candidate, candidate_rules}
use Rattle.symbol_solve.specs.Conflicts.{by_place, clash_between, reported}
use Rattle.symbol_solve.specs.Solve.{values, values_unless}
use Rattle.symbol_solve.specs.inside.Left.{IsOneOf, RunsIn, marked, pair_at}
use Rattle.symbol_solve.proofs.CandidateLaws.{IsHere, candidates_here, runs_here}
use Rattle.symbol_solve.proofs.OrderLaws.{Before, Ordered, candidates_ordered}
use Rattle.symbol_solve.proofs.RemainLaws.{AreApart, AllApart, remaining_among, marked_test}

-- ---- what is tried
one_of : (codes : List PreSection) (c : Candidate) (t : Tried) → IsTried codes c t → IsOneOf codes c t
one_of codes c t it = record {
  pre = record { object = c.object; place = c.place; section = c.section };
  code = it.code;
  held = record { object = refl; section = refl; place = refl; home = it.home; base = it.base };
}

zip_of : (codes : List PreSection) (cs : List Candidate) (tried : List Tried)
    → AllZip (IsTried codes) cs tried → AllZip (IsOneOf codes) cs tried
zip_of codes [] [] all = tt
zip_of codes [] (t ∷ tried) all = absurd all
zip_of codes (c ∷ cs) [] all = absurd all
zip_of codes (c ∷ cs) (t ∷ tried) all = (one_of codes c t all.0, zip_of codes cs tried all.1)

within_of : (codes : List PreSection) (cs : List Candidate) (tried : List Tried)
    → AllZip (IsTried codes) cs tried → All (λ (t : Tried). t.section < length codes) tried
within_of codes [] [] all = All-nil (λ (t : Tried). t.section < length codes)
within_of codes [] (t ∷ tried) all = absurd all
within_of codes (c ∷ cs) [] all = absurd all
within_of codes (c ∷ cs) (t ∷ tried) all =
    All-cons (λ (u : Tried). u.section < length codes) t tried
    (slice_get_within codes t.section _ all.0.code) (within_of codes cs tried all.1)

module _ (running : Running) (object : List NormalSection) where
  pub are_of : (codes : List PreSection) (tried : List Tried) → codes ≡ code_sections object
      → AreTried running object tried → AllZip (IsOneOf codes) (candidates running object) tried
  are_of codes tried is all =
      zip_of codes (candidates running object) tried
      (subst (λ (l : List PreSection). AllZip (IsTried l) (candidates running object) tried) (sym is) all)

  pub are_within : (codes : List PreSection) (tried : List Tried) → codes ≡ code_sections object
      → AreTried running object tried → All (λ (t : Tried). t.section < length codes) tried
  are_within codes tried is all =
      within_of codes (candidates running object) tried
      (subst (λ (l : List PreSection). AllZip (IsTried l) (candidates running object) tried) (sym is) all)

  pub all_run : All (RunsIn running) (candidates running object)
  all_run = All-weaker (IsHere running object)
      (RunsIn running) (runs_here running object) (candidates running object) (candidates_here running object)

-- ---- no two candidates are the same
self : (c : Candidate) → same_candidate c c ≡ true
self c = λ i. eq-eqb c.place c.place refl i && eq-eqb c.home c.home refl i

apart_by : (a b c d : ℕ)
    → (a < b) ⊎ ((a ≡ b) × (c < d)) → ((eqb a b && eqb c d) ≡ false) × ((eqb b a && eqb d c) ≡ false)
apart_by a b c d (inl less) = (
  ap (λ t. t && eqb c d) (ne_eqb a b (λ e. omega (arith, e, less))),
  ap (λ t. t && eqb d c) (ne_eqb b a (λ e. omega (arith, e, less))),
)
apart_by a b c d (inr (same, less)) =
    let one : eqb c d ≡ false = ne_eqb c d (λ e. omega (arith, e, less)) in
    let two : eqb d c ≡ false = ne_eqb d c (λ e. omega (arith, e, less)) in
    ((λ i. eq-eqb a b same i && one i), (λ i. eq-eqb b a (sym same) i && two i))

all_apart : (cs : List Candidate) → Ordered Before cs → AllApart candidate_rules cs
all_apart [] order = tt
all_apart (c ∷ cs) order = (
  All-weaker
      (Before c) (AreApart candidate_rules c) (λ d before. apart_by c.place d.place c.home d.home before) cs order.0,
  all_apart cs order.1,
)

-- ---- what is left, and the answer
module _ (running : Running) (object : List NormalSection) where
  pub left_here : (marks : List Bool) → marks ≡ map
      (is_among candidate_rules (remaining candidate_rules (candidates running object))) (candidates running object)
      → marked marks (candidates running object) ≡ remaining candidate_rules (candidates running object)
  left_here marks are =
      let cs : List Candidate = candidates running object in
      ap (λ l. marked l cs) are
      ∙ marked_test (is_among candidate_rules (remaining candidate_rules cs)) cs
      ∙ remaining_among candidate_rules self cs (all_apart cs (candidates_ordered running object))

-- what is reported of the pair that was found
pub reported_here : (count : ℕ) (cs : List Candidate) (places : Option (ℕ × ℕ))
    → option_and_then (pair_at cs) places ≡ conflict candidate_rules (by_place count (forced candidate_rules cs))
    → reported count cs ≡ option_and_then clash_between (option_and_then (pair_at cs) places)
unfolding reported
reported_here count cs places found = ap (option_and_then clash_between) (sym found)

-- the answer, by what stands in its way
pub refused_by : (report twin : Option Refusal) (refusal : Refusal) (chosen : List Candidate)
    → report ≡ Some refusal → values_unless (option_or report twin) chosen ≡ Err refusal
refused_by report twin refusal chosen is = ap (λ (o : Option Refusal). values_unless (option_or o twin) chosen) is

pub refused_next : (report twin : Option Refusal) (refusal : Refusal) (chosen : List Candidate)
    → report ≡ None → twin ≡ Some refusal → values_unless (option_or report twin) chosen ≡ Err refusal
refused_next report twin refusal chosen none is =
    λ i. values_unless (option_or (none i) (is i)) chosen

pub answered : (report twin : Option Refusal) (chosen : List Candidate)
    → report ≡ None → twin ≡ None → values_unless (option_or report twin) chosen ≡ Ok (values chosen)
answered report twin chosen none is = λ i. values_unless (option_or (none i) (is i)) chosen
