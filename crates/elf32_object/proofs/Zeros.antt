-- Where the zeros of a list stand.
use Rattle.std.proofs.Common.{◌≡◌, ℕ, zero, suc, ◌-◌, ◌<◌, ◌≤◌, true, false, nat_lt, nat_le, min, List, [], ◌∷◌, length}
use Rattle.std.proofs.Common.{take, drop, get_or, refl, sym, ap, ◌∙◌, arith, length-take, length-drop, inl, inr}
use Rattle.std.specs.List.{list_any, position_or_len, before_first}
use Rattle.std.proofs.lemmas.Bool.Decides.{nat_tests}
use Rattle.std.proofs.lemmas.Bool.{cases_lt, lt-ltb, le-ltb}
use Rattle.std.proofs.lemmas.List.{get_or-drop}
use Rattle.std.proofs.lemmas.List.Folds.{list_any_at}
use Rattle.elf32_object.specs.Fields.{is_zero, ends_in}

none_after : (xs : List ℕ) (n : ℕ) → list_any is_zero xs ≡ false → list_any is_zero (drop n xs) ≡ false
none_after xs zero e = e
none_after [] (suc n) e = refl
none_after (x ∷ xs) (suc n) e = none_after xs n (grind (arith, nat_tests))

-- no zero stands in a part of a list that has none
pub none_later : (xs : List ℕ) (i j : ℕ) → i ≤ j → list_any is_zero (drop i xs) ≡ false
    → list_any is_zero (drop j xs) ≡ false
none_later xs zero j h e = none_after xs j e
none_later [] (suc i) zero h e = refl
none_later [] (suc i) (suc j) h e = refl
none_later (x ∷ xs) (suc i) zero h e = absurd (omega arith)
none_later (x ∷ xs) (suc i) (suc j) h e = none_later xs i j (omega arith) e

pub first_in_front : (xs : List ℕ) (n : ℕ) → position_or_len is_zero (take n xs) ≡ min n (position_or_len is_zero xs)
first_in_front xs zero = grind arith
first_in_front [] (suc n) = grind arith
first_in_front (x ∷ xs) (suc n) = grind (arith, nat_tests, first_in_front xs n)

pub first_within : (xs : List ℕ) → position_or_len is_zero xs ≤ length xs
first_within [] = omega arith
first_within (x ∷ xs) = grind (arith, nat_tests, first_within xs)

-- a look at 4,097 bytes shows whether the text before the first zero has more than 4,096
pub is_short : (xs : List ℕ) (n : ℕ) → n ≡ min (length xs) 4097
    → nat_le (position_or_len is_zero (take n xs)) 4096 ≡ nat_le (length (before_first is_zero xs)) 4096
is_short xs n e =
    let within = first_within xs in
    let front = first_in_front xs n in
    let size = length-take (position_or_len is_zero xs) xs in
    grind (arith, nat_tests)

-- the texts that a zero ends begin before the place after the last zero
pub ends_before : (xs : List ℕ) (end : ℕ) → end ≤ length xs → (0 < end → get_or xs (end - 1) 0 ≡ 0)
    → list_any is_zero (drop end xs) ≡ false → (place : ℕ) → ends_in xs place ≡ nat_lt place end
ends_before xs end within last behind place =
    elim (cases_lt place end) [
      | inl lt ↦
          let here : is_zero (get_or (drop place xs) (end - 1 - place) 0) ≡ true =
          rw get_or-drop (ap (λ n. is_zero (get_or xs n 0)) (omega arith) ∙ ap is_zero (last (omega arith))) in
          list_any_at is_zero (drop place xs) (end - 1 - place) 0 (omega (arith, length-drop place xs)) here
          ∙ sym (lt-ltb place end lt)
      | inr le ↦ none_later xs end place le behind ∙ sym (le-ltb place end le)
    ]

-- a place from which a zero follows lies in the table
pub ends_within : (table : List ℕ) (place : ℕ) → ends_in table place ≡ true → place ≤ length table
ends_within table zero e = omega arith
ends_within [] (suc place) e = cc
ends_within (x ∷ xs) (suc place) e = omega (arith, ends_within xs place e)
