-- A number is found in an ascending list by halving.
use Rattle.std.proofs.Common.{◌≡◌, ℕ, ◌<◌, ◌≤◌, ◌==◌, List, length, get_or, Contains, Result, Ok}
use Rattle.std.proofs.Common.{Err, MatchResult, is_ok, sym, ◌∙◌, ap, subst, inl, inr, arith, nat_cmp}
use Rattle.std.specs.List.{list_any}
use Rattle.std.specs.List.Sorted.{IsStrictlyIncreasing, IsBinarySearchResult}
use Rattle.std.proofs.lemmas.Bool.{cases_eq, cases_lt, false_from_ne_true}
use Rattle.std.proofs.lemmas.List.{get_or_default}
use Rattle.std.proofs.lemmas.List.Elements.{Contains-get_or}
use Rattle.std.proofs.lemmas.List.Kept.{AllPairs-from_increasing}
use Rattle.std.proofs.lemmas.List.Sorted.{searched}
use Rattle.propagation.proofs.ListLaws.{has_from, has_of}

ascending : (xs : List ℕ) → IsStrictlyIncreasing xs → (i j : ℕ) → i ≤ j → j < length xs → get_or xs i 0 ≤ get_or xs j 0
ascending xs ascend i j le less =
    elim (cases_eq i j) [
      | inl e ↦ (let same = ap (λ k. get_or xs k 0) e in omega (arith, same))
      | inr ne ↦
          (let h = AllPairs-from_increasing xs ascend i j 0 (omega (arith, le, ne)) less in omega (arith, h))
    ]

abbrev Search : List ℕ → ℕ → Result ℕ ℕ → Type 0
Search xs x r =
    MatchResult r (λ i. (i < length xs) × (get_or xs i 0 ≡ x)) (λ i. (i ≤ length xs)
    × ((k : ℕ) → k < i → get_or xs k 0 < x) × ((k : ℕ) → i ≤ k → k < length xs → x < get_or xs k 0))

told : (xs : List ℕ) (x : ℕ) (r : Result ℕ ℕ) → Search xs x r → is_ok r ≡ list_any (λ other. other == x) xs
told xs x (Ok i) h =
    let P : ℕ → Type 0 = Contains xs in
    sym (has_from xs x (subst P h.1 (Contains-get_or xs i 0 h.0)))
told xs x (Err i) h =
    sym (false_from_ne_true (list_any (λ other. other == x) xs)
    (λ t.
    (let found = has_of xs x t in
    let here = get_or_default xs found.0 0 x found.1 ∙ found.2 in
    elim (cases_lt found.0 i) [
      | inl low ↦ (let less = h.1 found.0 low in omega (arith, less, here))
      | inr high ↦ (let more = h.2 found.0 high found.1 in omega (arith, more, here))
    ])))

pub met_found : (xs : List ℕ) (x : ℕ) (r : Result ℕ ℕ) → IsStrictlyIncreasing xs
    → IsBinarySearchResult (λ y. nat_cmp y x) xs r → is_ok r ≡ list_any (λ other. other == x) xs
met_found xs x r ascend h = told xs x r (searched xs x r h (ascending xs ascend))
