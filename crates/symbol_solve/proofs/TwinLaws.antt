-- Neighbours of one section, and values, one candidate after another.
use Rattle.std.proofs.Common.{arith, ◌≡◌, ℕ, zero, suc, ◌+◌, ◌<◌, ◌≤◌, List, [], ◌∷◌, drop}
use Rattle.std.proofs.Common.{length, get_or, Option, Some, None, refl, sym, ap, ◌∙◌, drop-cons}
use Rattle.std.specs.List.{AllZip, slice_get, flat_map, fold}
use Rattle.std.specs.Option.{option_or}
use Rattle.std.proofs.lemmas.Option.{same_Some, slice_get_read, slice_get_within, get_or_from_slice_get}
use Rattle.std.proofs.lemmas.List.{drop_all}
use Rattle.std.proofs.lemmas.List.Sums.{fold-append}
use Rattle.std.proofs.lemmas.List.Concat.{flat_map-cons}
use Rattle.ks_base.specs.declared.refusals.Refusal.{Refusal}
use Rattle.run_pre_match.specs.Candidate.{Candidate}
use Rattle.symbol_solve.specs.Solve.{Value, twins, first_twins, with_value, values_of}
use Rattle.symbol_solve.proofs.HeldLaws.{zip_get, zip_length}

two_at : (cs : List Candidate) (i : ℕ) (c d : Candidate) → slice_get cs i ≡ Some c
    → slice_get cs (suc i) ≡ Some d → first_twins (drop i cs) ≡ option_or (twins c d) (first_twins (drop (suc i) cs))
unfolding first_twins
two_at [] i c d is_c is_d = absurd cc
two_at (x ∷ []) zero c d is_c is_d = absurd cc
two_at (x ∷ []) (suc i) c d is_c is_d = absurd cc
two_at (x ∷ y ∷ rest) zero c d is_c is_d =
    λ j. option_or (twins (same_Some x c is_c j) (same_Some y d is_d j)) (first_twins (y ∷ rest))
two_at (x ∷ y ∷ rest) (suc i) c d is_c is_d = two_at (y ∷ rest) i c d is_c is_d

-- the last one has no neighbour
pub last_at : (cs : List Candidate) (i : ℕ) → length cs ≤ suc i → first_twins (drop i cs) ≡ None
unfolding first_twins
last_at [] zero few = refl
last_at [] (suc i) few = refl
last_at (x ∷ []) zero few = refl
last_at (x ∷ y ∷ rest) zero few = absurd (omega arith)
last_at (x ∷ xs) (suc i) few = last_at xs i (omega arith)

module _ {H : Type 0} (R : Candidate → H → Type 0) where
  -- the first two neighbours from a place on, by what is said of the two that stand there
  pub twins_step : (cs : List Candidate) (hs : List H) (i k : ℕ) (one other : H) (r : Option Refusal)
      → AllZip R cs hs → suc i ≡ k → k < length hs
      → one ≡ get_or hs i one → other ≡ get_or hs k other → ((c d : Candidate) → R c one → R d other → r ≡ twins c d)
      → first_twins (drop i cs) ≡ option_or r (first_twins (drop k cs))
  twins_step cs hs i k one other r all next within is_one is_other told =
      let (c, at_c, here) = zip_get R cs hs i one all (slice_get_read hs (length hs) i one refl (omega arith) is_one) in
      let (d, at_d, there) = zip_get R cs hs k other all (slice_get_read hs (length hs) k other refl within is_other) in
      two_at cs i c d at_c (ap (slice_get cs) next ∙ at_d)
      ∙ ap (λ o. option_or o (first_twins (drop (suc i) cs))) (sym (told c d here there))
      ∙ ap (λ n. option_or r (first_twins (drop n cs))) next

  pub twins_end : (cs : List Candidate) (hs : List H) (i : ℕ)
      → AllZip R cs hs → length hs ≤ suc i → first_twins (drop i cs) ≡ None
  twins_end cs hs i all few = last_at cs i (omega (arith, zip_length R cs hs all))

  -- the values from a place on, by what is said of the one that stands there
  pub values_step : (cs : List Candidate) (hs : List H) (i : ℕ) (h : H) (old new : List Value)
      → AllZip R cs hs → i < length hs → h ≡ get_or hs i h
      → ((c : Candidate) → R c h → new ≡ fold with_value old (values_of c))
      → fold with_value old (flat_map values_of (drop i cs))
      ≡ fold with_value new (flat_map values_of (drop (i + 1) cs))
  values_step cs hs i h old new all within is_h told =
      let (c, at, here) = zip_get R cs hs i h all (slice_get_read hs (length hs) i h refl within is_h) in
      let next : suc i ≡ i + 1 = omega arith in
      let rest : List Value = flat_map values_of (drop (suc i) cs) in
      let parts : drop i cs ≡ c ∷ drop (suc i) cs =
      drop-cons cs i c (slice_get_within cs i c at)
      ∙ ap (λ d. d ∷ drop (suc i) cs) (get_or_from_slice_get cs i c c at) in
      ap (λ (l : List Candidate). fold with_value old (flat_map values_of l)) parts
      ∙ ap (fold with_value old) (flat_map-cons values_of c (drop (suc i) cs))
      ∙ fold-append with_value old (values_of c) rest
      ∙ ap (λ (l : List Value). fold with_value l rest) (sym (told c here))
      ∙ ap (λ n. fold with_value new (flat_map values_of (drop n cs))) next

  pub values_end : (cs : List Candidate) (hs : List H) (i : ℕ) (old : List Value)
      → AllZip R cs hs → length hs ≤ i → fold with_value old (flat_map values_of (drop i cs)) ≡ old
  values_end cs hs i old all few =
      ap (λ (l : List Candidate). fold with_value old (flat_map values_of l))
      (drop_all i cs (omega (arith, zip_length R cs hs all)))
