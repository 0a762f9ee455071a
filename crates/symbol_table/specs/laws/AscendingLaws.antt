-- Laws of ascending numbers: a list without repeats is known by its members.
use Rattle.std.proofs.Common.{◌≡◌, ℕ, suc, ◌<◌, ◌≤◌, Bool, true, false, cond, ◌||◌, eqb, ltb, List}
use Rattle.std.proofs.Common.{[], ◌∷◌, length, get_or, refl, sym, ◌∙◌, ap, subst, inl, inr, arith}
use Rattle.std.specs.List.{list_any, dedup, dedup_from}
use Rattle.std.specs.List.Sorted.{IsSorted, IsPermutation}
use Rattle.std.specs.Ordering.{nat_cmp}
use Rattle.std.proofs.lemmas.Bool.{false≢true, ltb-true, ltb-false, eqb-true, eq-eqb, or_cases, false_from_ne_true}
use Rattle.std.proofs.lemmas.List.Sorted.{list_any-IsPermutation}
use Rattle.std.proofs.lemmas.Map.Keys.{IsStrictlyIncreasing-dedup, sorted_from_strictly_increasing, below_from_sorted}
use Rattle.symbol_table.specs.Symbols.{with_number, ascending}

-- each number of a list is above a number
abbrev pub Above : ℕ → List ℕ → Type 0
Above n [] = Unit {0}
Above n (m ∷ ms) = (n < m) × Above n ms

-- each number is below those after it
abbrev pub Ascends : List ℕ → Type 0
Ascends [] = Unit {0}
Ascends (n ∷ ns) = Above n ns × Ascends ns

-- whether a list has a number
abbrev pub has : ℕ → List ℕ → Bool
has n ns = list_any (eqb n) ns

-- ---- what is above a number
above_lower : (m n : ℕ) (ns : List ℕ) → m < n → Above n ns → Above m ns
above_lower m n [] lower above = tt
above_lower m n (k ∷ ks) lower above = (omega (arith, above.0), above_lower m n ks lower above.1)

above_has : (n m : ℕ) (ns : List ℕ) → Above n ns → has m ns ≡ true → n < m
above_has n m [] above one = absurd (false≢true one)
above_has n m (k ∷ ks) above one =
    elim (or_cases (eqb m k) (has m ks) one) as (λ _. n < m) [
      | inl is ↦
          (let e = eqb-true m k is in omega (arith, above.0))
      | inr later ↦ above_has n m ks above.1 later
    ]

above_not_has : (n : ℕ) (ns : List ℕ) → Above n ns → has n ns ≡ false
above_not_has n ns above = false_from_ne_true (has n ns) (λ one. let less = above_has n n ns above one in omega arith)

-- ---- a number put in
or_swap : (a b c : Bool) → (a || (b || c)) ≡ (b || (a || c))
or_swap true true c = refl
or_swap true false c = refl
or_swap false b c = refl

or_self : (a c : Bool) → (a || c) ≡ (a || (a || c))
or_self true c = refl
or_self false c = refl

has-with_number : (n m : ℕ) (ns : List ℕ) → has n (with_number m ns) ≡ (eqb n m || has n ns)
has-with_number n m [] = refl
has-with_number n m (k ∷ ks) =
    elim (ltb m k) as (λ b. ltb m k ≡ b → has n (cond b (m ∷ k ∷ ks) (cond (ltb k m) (k ∷ with_number m ks) (k ∷ ks)))
    ≡ (eqb n m || (eqb n k || has n ks))) [
      | true ↦ λ _. refl
      | false ↦ λ low. elim (ltb k m) as (λ b. ltb k m ≡ b
          → has n (cond b (k ∷ with_number m ks) (k ∷ ks)) ≡ (eqb n m || (eqb n k || has n ks))) [
            | true ↦ λ _. ap (λ b. eqb n k || b) (has-with_number n m ks) ∙ or_swap (eqb n k) (eqb n m) (has n ks)
            | false ↦ λ high.
                let m_le = ltb-false k m high in
                let k_le = ltb-false m k low in
                let e : m ≡ k = omega arith in
                or_self (eqb n k) (has n ks) ∙ ap (λ b. b || (eqb n k || has n ks)) (ap (eqb n) (sym e))
          ] refl
    ] refl

above-with_number : (n m : ℕ) (ns : List ℕ) → n < m → Above n ns → Above n (with_number m ns)
above-with_number n m [] less above = (less, tt)
above-with_number n m (k ∷ ks) less above =
    elim (ltb m k) as (λ b. Above n (cond b (m ∷ k ∷ ks) (cond (ltb k m) (k ∷ with_number m ks) (k ∷ ks)))) [
      | true ↦ (less, above)
      | false ↦ elim (ltb k m) as (λ b. Above n (cond b (k ∷ with_number m ks) (k ∷ ks))) [
        | true ↦ (above.0, above-with_number n m ks less above.1)
        | false ↦ above
      ]
    ]

ascends-with_number : (m : ℕ) (ns : List ℕ) → Ascends ns → Ascends (with_number m ns)
ascends-with_number m [] up = (tt, tt)
ascends-with_number m (k ∷ ks) up =
    elim (ltb m k) as (λ b. ltb m k ≡ b
    → Ascends (cond b (m ∷ k ∷ ks) (cond (ltb k m) (k ∷ with_number m ks) (k ∷ ks)))) [
      | true ↦ λ low. let less = ltb-true m k low in ((less, above_lower m k ks less up.0), up)
      | false ↦ λ _. elim (ltb k m) as (λ b. ltb k m ≡ b → Ascends (cond b (k ∷ with_number m ks) (k ∷ ks))) [
        | true ↦ λ high. (above-with_number k m ks (ltb-true k m high) up.0, ascends-with_number m ks up.1)
        | false ↦ λ _. up
      ] refl
    ] refl

-- ---- the numbers of a list, ascending
pub has-ascending : (n : ℕ) (ns : List ℕ) → has n (ascending ns) ≡ has n ns
has-ascending n [] = refl
has-ascending n (m ∷ ms) = has-with_number n m (ascending ms) ∙ ap (λ b. eqb n m || b) (has-ascending n ms)

pub ascends-ascending : (ns : List ℕ) → Ascends (ascending ns)
ascends-ascending [] = tt
ascends-ascending (n ∷ ns) = ascends-with_number n (ascending ns) (ascends-ascending ns)

-- ---- lists that ascend and have the same members are equal
has_head : (n : ℕ) (ns : List ℕ) → has n (n ∷ ns) ≡ true
has_head n ns = ap (λ b. b || has n ns) (eq-eqb n n refl)

head_le : (n m : ℕ) (ms : List ℕ) → Above m ms → has n (m ∷ ms) ≡ true → m ≤ n
head_le n m ms above one =
    elim (or_cases (eqb n m) (has n ms) one) as (λ _. m ≤ n) [
      | inl is ↦
          (let e = eqb-true n m is in omega arith)
      | inr later ↦ (let less = above_has m n ms above later in omega arith)
    ]

same_tails : (z x : ℕ) (xs ys : List ℕ) → Above x xs → Above x ys → (eqb z x || has z xs) ≡ (eqb z x || has z ys) →
    has z xs ≡ has z ys
same_tails z x xs ys above_xs above_ys same =
    elim (eqb z x) as (λ b. eqb z x ≡ b → (b || has z xs) ≡ (b || has z ys) → has z xs ≡ has z ys) [
      | true ↦ λ is _.
          let e = eqb-true z x is in
          let fact : ℕ → Type 0 = λ k. has k xs ≡ has k ys in
          subst fact (sym e) (above_not_has x xs above_xs ∙ sym (above_not_has x ys above_ys))
      | false ↦ λ _ rest. rest
    ] refl same

pub same_members : (xs ys : List ℕ) → Ascends xs → Ascends ys → ((n : ℕ) → has n xs ≡ has n ys) → xs ≡ ys
same_members [] [] up_xs up_ys same = refl
same_members [] (y ∷ ys) up_xs up_ys same = absurd (false≢true (same y ∙ has_head y ys))
same_members (x ∷ xs) [] up_xs up_ys same = absurd (false≢true (sym (same x) ∙ has_head x xs))
same_members (x ∷ xs) (y ∷ ys) up_xs up_ys same =
    let y_le = head_le x y ys up_ys.0 (sym (same x) ∙ has_head x xs) in
    let x_le = head_le y x xs up_xs.0 (same y ∙ has_head y ys) in
    let heads : x ≡ y = omega arith in
    let above_x : Above x ys = (let fact : ℕ → Type 0 = λ k. Above k ys in subst fact (sym heads) up_ys.0) in
    let tails : xs ≡ ys = same_members xs ys up_xs.1 up_ys.1
    (λ z. same_tails z x xs ys up_xs.0 above_x (same z ∙ ap (λ k. eqb z k || has z ys) (sym heads))) in
    ap (λ k. k ∷ xs) heads ∙ ap (λ ks. y ∷ ks) tails

-- ---- after a sort and a `dedup`
above_by_place : (n : ℕ) (ns : List ℕ) → ((k : ℕ) → k < length ns → n < get_or ns k 0) → Above n ns
above_by_place n [] each = tt
above_by_place n (m ∷ ms) each = (each 0 (omega arith), above_by_place n ms (λ k less. each (suc k) (omega arith)))

ascends_by_place : (ns : List ℕ) → ((i j : ℕ) → i < j → j < length ns → get_or ns i 0 < get_or ns j 0) → Ascends ns
ascends_by_place [] each = tt
ascends_by_place (n ∷ ns) each = (
  above_by_place n ns (λ k less. each 0 (suc k) (omega arith) (omega arith)),
  ascends_by_place ns
      (λ i j below less. each (suc i) (suc j) (omega arith) (omega arith)),
)

has-dedup_from : (n m : ℕ) (ns : List ℕ) → has n (dedup_from eqb m ns) ≡ (eqb n m || has n ns)
has-dedup_from n m [] = refl
has-dedup_from n m (k ∷ ks) =
    elim (eqb k m) as (λ b. eqb k m ≡ b → has n (cond b (dedup_from eqb m ks) (m ∷ dedup_from eqb k ks))
    ≡ (eqb n m || (eqb n k || has n ks))) [
      | true ↦ λ is.
          let e = eqb-true k m is in
          has-dedup_from n m ks ∙ or_self (eqb n m) (has n ks)
          ∙ ap (λ b. eqb n m || (b || has n ks)) (ap (eqb n) (sym e))
      | false ↦ λ _. ap (λ b. eqb n m || b) (has-dedup_from n k ks)
    ] refl

has-dedup : (n : ℕ) (ns : List ℕ) → has n (dedup eqb ns) ≡ has n ns
has-dedup n [] = refl
has-dedup n (m ∷ ms) = has-dedup_from n m ms

-- what is left of sorted numbers without repeats is the numbers, ascending
pub dedup_is_ascending : (found sorted kept : List ℕ) → IsPermutation found sorted → IsSorted nat_cmp sorted →
    kept ≡ dedup eqb sorted → kept ≡ ascending found
dedup_is_ascending found sorted kept moved up is =
    is ∙ same_members (dedup eqb sorted) (ascending found)
    (ascends_by_place (dedup eqb sorted)
    (λ i j below less. below_from_sorted (dedup eqb sorted) i j 0
    (sorted_from_strictly_increasing (dedup eqb sorted) (IsStrictlyIncreasing-dedup sorted up)) below less))
    (ascends-ascending found)
    (λ n. has-dedup n sorted ∙ sym (list_any-IsPermutation (eqb n) found sorted moved) ∙ sym (has-ascending n found))
