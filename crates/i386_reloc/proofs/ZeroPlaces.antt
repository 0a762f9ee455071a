-- Where a text ends, by the places of zeros.
use Rattle.std.proofs.Common.{◌≡◌, ◌≢◌, ℕ, zero, suc, ◌+◌, ◌-◌, ◌<◌, ◌≤◌, ◌==◌, Bool, true, false}
use Rattle.std.proofs.Common.{cond, List, [], ◌∷◌, ◌++◌, length, take, drop, get_or, ltb, slice_index}
use Rattle.std.proofs.Common.{refl, sym, ap, subst, ◌∙◌, inl, inr, arith, length-drop, All}
use Rattle.std.specs.List.{Contains, list_any, position_or_len}
use Rattle.std.specs.List.Sorted.{IsNonDecreasingBy, IsPartitionPoint}
use Rattle.std.proofs.lemmas.Bool.{cases_lt, ltb-true, ltb-false, eqb-true}
use Rattle.std.proofs.lemmas.Bool.Decides.{nat_tests}
use Rattle.std.proofs.lemmas.List.{append-nil, get_or-drop, get_or_default, take_more}
use Rattle.std.proofs.lemmas.List.Elements.{All-push, All-weaker, All-nil, Contains-append_left, Contains-append_right}
use Rattle.std.proofs.lemmas.List.Folds.{list_any_at}
use Rattle.std.proofs.lemmas.List.Sorted.{IsNonDecreasingBy-push, IsNonDecreasingBy-short}
use Rattle.std.proofs.lemmas.List.Sums.{position_or_len_is}
use Rattle.elf32_object.specs.Fields.{is_zero, ends_in}
use Rattle.elf32_object.specs.Below.{all_below}
use Rattle.i386_reloc.specs.References.{text_through}
use Rattle.i386_reloc.specs.inside.Zeros.{zero_at, zeros_of}

abbrev IsZeroBelow : List ℕ → ℕ → ℕ → Type 0
IsZeroBelow bytes n z = (z < n) × (slice_index bytes z ≡ 0)

-- each listed place is that of a zero
under_more : (bytes : List ℕ) (n : ℕ) (zeros : List ℕ) (b : Bool) → (slice_index bytes n == 0) ≡ b
    → All (IsZeroBelow bytes n) zeros → All (IsZeroBelow bytes (suc n)) (zeros ++ cond b (n ∷ []) [])
under_more bytes n zeros true here before =
    All-push (IsZeroBelow bytes (suc n)) zeros n
    (All-weaker (IsZeroBelow bytes n) (IsZeroBelow bytes (suc n)) (λ z p. (omega (arith, p.0), p.1)) zeros before)
    (omega arith, eqb-true (slice_index bytes n) 0 here)
under_more bytes n zeros false here before =
    rw (append-nil zeros) (All-weaker (IsZeroBelow bytes n) (IsZeroBelow bytes (suc n))
    (λ z p. (omega (arith, p.0), p.1)) zeros before)

under : (bytes : List ℕ) (n : ℕ) → All (IsZeroBelow bytes n) (all_below (zero_at bytes) n)
under bytes zero = All-nil (IsZeroBelow bytes 0)
under bytes (suc n) = under_more bytes n (all_below (zero_at bytes) n) (slice_index bytes n == 0) refl (under bytes n)

-- they ascend
rising_more : (bytes : List ℕ) (n : ℕ) (zeros : List ℕ) (b : Bool) → All (IsZeroBelow bytes n) zeros
    → IsNonDecreasingBy (λ x. x) zeros → IsNonDecreasingBy (λ x. x) (zeros ++ cond b (n ∷ []) [])
rising_more bytes n zeros true below before =
    IsNonDecreasingBy-push (λ x. x) zeros n before (λ d some. let l = (below (length zeros - 1) d (omega arith)).0 in
    omega (arith, l))
rising_more bytes n zeros false below before = rw (append-nil zeros) before

rising : (bytes : List ℕ) (n : ℕ) → IsNonDecreasingBy (λ x. x) (all_below (zero_at bytes) n)
rising bytes zero = IsNonDecreasingBy-short (λ x. x) [] (omega arith)
rising bytes (suc n) = rising_more bytes n (all_below (zero_at bytes) n) (slice_index bytes n == 0) (under bytes n)
    (rising bytes n)

-- each zero is listed
zero_listed : (bytes : List ℕ) (n : ℕ) → slice_index bytes n ≡ 0 → Contains (zero_at bytes n) n
zero_listed bytes n here = let e : (slice_index bytes n == 0) ≡ true = rw here refl in rw e (0, omega arith, refl)

listed : (bytes : List ℕ) (n k : ℕ) → k < n → slice_index bytes k ≡ 0 → Contains (all_below (zero_at bytes) n) k
listed bytes zero k below here = absurd (omega arith)
listed bytes (suc n) k below here =
    elim (cases_lt k n) [
      | inl lt ↦ Contains-append_left (all_below (zero_at bytes) n) (zero_at bytes n) k (listed bytes n k lt here)
      | inr le ↦
          let same : k ≡ n = omega arith in
          subst (λ (m : ℕ). Contains (all_below (zero_at bytes) n ++ zero_at bytes n) m) (sym same)
          (Contains-append_right (all_below (zero_at bytes) n) (zero_at bytes n) n
          (zero_listed bytes n (sym (ap (slice_index bytes) same) ∙ here)))
    ]

abbrev IsSplit : List ℕ → ℕ → ℕ → Type 0
IsSplit zeros offset place = IsPartitionPoint (λ y. ltb y offset ≡ true) (λ y. ltb y offset ≡ false) zeros place

-- no zero stands before the first listed one
none_between : (bytes : List ℕ) (n offset place z : ℕ) → IsSplit (all_below (zero_at bytes) n) offset place
    → place < length (all_below (zero_at bytes) n) → z ≡ get_or (all_below (zero_at bytes) n) place z
    → (k : ℕ) → offset ≤ k → k < z → k < n → slice_index bytes k ≡ 0 → ⊥
none_between bytes n offset place z split within at k from before inside here =
    let found = listed bytes n k inside here in
    elim (cases_lt found.0 place) [
      | inl lt ↦
          let low = ltb-true _ offset (split.0 found.0 k (omega arith) lt) in
          absurd (omega (arith, low, found.2))
      | inr le ↦
          let high = rising bytes n place found.0 k le found.1 in
          let first = get_or_default (all_below (zero_at bytes) n) place k z within in
          absurd (omega (arith, high, first, at, found.2))
    ]

not_zero : (x : ℕ) → (x ≡ 0 → ⊥) → is_zero x ≡ false
not_zero x nonzero =
    let apart : x ≢ 0 = nonzero in grind (arith, nat_tests)

pub is_zero_true : (x : ℕ) → x ≡ 0 → is_zero x ≡ true
is_zero_true x e = rw e refl

-- what the first zero at or after an offset says of the text there
text_by_zero : (bytes : List ℕ) (offset z : ℕ) → offset ≤ z → z < length bytes → slice_index bytes z ≡ 0
    → ((k : ℕ) → offset ≤ k → k < z → slice_index bytes k ≡ 0 → ⊥)
    → (ends_in bytes offset ≡ true) × (take (z - offset + 1) (drop offset bytes) ≡ text_through bytes offset)
unfolding text_through
text_by_zero bytes offset z from within here none =
    let rest : List ℕ = drop offset bytes in
    let inside : z - offset < length rest = omega (arith, length-drop offset bytes) in
    let reach : offset + (z - offset) ≡ z = omega arith in
    let last : get_or rest (z - offset) 0 ≡ 0 = get_or-drop offset bytes (z - offset) 0
    ∙ ap (λ k. get_or bytes k 0) reach ∙ here in
    let first : position_or_len is_zero rest ≡ z - offset =
    position_or_len_is is_zero rest (z - offset) 0 (omega arith)
    (λ k before. ap is_zero (get_or-drop offset bytes k 0)
    ∙ not_zero (get_or bytes (offset + k) 0) (none (offset + k) (omega arith) (omega (arith, before, reach))))
    (λ h. is_zero_true _ last) in (
      list_any_at is_zero rest (z - offset) 0 inside (is_zero_true _ last),
      take_more rest (z - offset) 0 inside
          ∙ ap (λ x. take (z - offset) rest ++ x ∷ []) last
          ∙ ap (λ n. take n rest ++ 0 ∷ []) (sym first),
    )

pub text_found : (bytes : List ℕ) (zeros : List ℕ) (offset place z : ℕ) → zeros ≡ zeros_of bytes
    → IsSplit zeros offset place → place < length zeros → z ≡ get_or zeros place z
    → (offset ≤ z) × (z < length bytes) × (ends_in bytes offset ≡ true)
    × (take (z - offset + 1) (drop offset bytes) ≡ text_through bytes offset)
unfolding zeros_of
text_found bytes zeros offset place z are split within at =
    let n = length bytes in
    let split' = subst (λ (zs : List ℕ). IsSplit zs offset place) are split in
    let within' = subst (λ (zs : List ℕ). place < length zs) are within in
    let at' = subst (λ (zs : List ℕ). z ≡ get_or zs place z) are at in
    let zero_here = subst (λ (m : ℕ). IsZeroBelow bytes n m) (sym at') (under bytes n place z within') in
    let from : offset ≤ z = subst (λ (m : ℕ). offset ≤ m) (sym at')
    (ltb-false _ offset (split'.1 place z (omega arith) within')) in
    let text = text_by_zero bytes offset z from zero_here.0 zero_here.1
    (λ k low high. none_between bytes n offset place z split' within' at' k low high
    (omega (arith, zero_here.0, high))) in
    (from, zero_here.0, text.0, text.1)

pub none_from : (xs : List ℕ) → ((k : ℕ) → k < length xs → get_or xs k 0 ≡ 0 → ⊥) → list_any is_zero xs ≡ false
none_from [] none = refl
none_from (x ∷ xs) none =
    rw (not_zero x (none 0 (omega arith))) (none_from xs (λ k l. none (suc k) (omega (arith, l))))

pub text_missing : (bytes : List ℕ) (zeros : List ℕ) (offset place : ℕ) → zeros ≡ zeros_of bytes
    → IsSplit zeros offset place → length zeros ≤ place → ends_in bytes offset ≡ false
unfolding zeros_of
text_missing bytes zeros offset place are split past =
    let n = length bytes in
    let split' = subst (λ (zs : List ℕ). IsSplit zs offset place) are split in
    none_from (drop offset bytes)
    (λ k inside here.
    let found = listed bytes n (offset + k) (omega (arith, inside, length-drop offset bytes))
    (sym (get_or-drop offset bytes k 0) ∙ here) in
    let low = ltb-true _ offset (split'.0 found.0 (offset + k) (omega arith)
    (omega (arith, found.1, past, ap length are))) in
    absurd (omega (arith, low, found.2)))

pub rising_zeros : (bytes zeros : List ℕ) → zeros ≡ zeros_of bytes → IsNonDecreasingBy (λ x. x) zeros
unfolding zeros_of
rising_zeros bytes zeros are = subst (λ (zs : List ℕ). IsNonDecreasingBy (λ x. x) zs) (sym are)
    (rising bytes (length bytes))
