-- Laws of the newest bases of homes.
use Rattle.std.proofs.Common.{◌≡◌, ℕ, suc, zero, ◌<◌, ◌≤◌, Bool, true, false, cond, ◌||◌, ◌&&◌, eqb}
use Rattle.std.proofs.Common.{ltb, List, [], ◌∷◌, length, get_or, refl, sym, ◌∙◌, ap, inl, inr, arith}
use Rattle.std.specs.List.{list_any, IsDistinct, AllByRecursion}
use Rattle.std.specs.List.Sorted.{IsNonDecreasingBy, IsPermutation}
use Rattle.std.proofs.lemmas.Bool.{eqb-true, eqb-false, eq-eqb, cond-true, cond-false}
use Rattle.std.proofs.lemmas.Bool.{false≢true, or_cases, cases_lt, false_from_ne_true}
use Rattle.std.proofs.lemmas.List.{get_or_default}
use Rattle.std.proofs.lemmas.Bool.Decides.{nat_tests}
use Rattle.std.proofs.lemmas.List.Sorted.{list_any-IsPermutation}
use Rattle.symbol_table.specs.Bodies.{newest, home_of, homes}

-- ---- what a search by halving finds
pub newest_absent : (rows : List (ℕ × ℕ)) (home : ℕ) →
    ((j : ℕ) (d : ℕ × ℕ) → j < length rows → eqb (get_or rows j d).0 home ≡ false) → newest rows home ≡ home
newest_absent [] home none = refl
newest_absent (row ∷ rows) home none = cond-false _ _ _ (none 0 row (omega arith))
    ∙ newest_absent rows home (λ j d l. none (suc j) d (omega arith))

pub newest_at : (rows : List (ℕ × ℕ)) (home index : ℕ) (d : ℕ × ℕ) → index < length rows →
    ((j : ℕ) (d : ℕ × ℕ) → j < index → eqb (get_or rows j d).0 home ≡ false) →
    eqb (get_or rows index d).0 home ≡ true → newest rows home ≡ (get_or rows index d).1
newest_at [] home index d less before here = absurd (omega arith)
newest_at (row ∷ rows) home zero d less before here = cond-true _ _ _ here
newest_at (row ∷ rows) home (suc index) d less before here =
    cond-false _ _ _ (before 0 row (omega arith)) ∙ newest_at rows home index d (omega arith)
    (λ j d l. before (suc j) d (omega arith)) here

below_differs : (n m : ℕ) → ltb n m ≡ true → eqb n m ≡ false
below_differs n m less = grind (arith, nat_tests)

above_differs : (k n m : ℕ) → ltb k m ≡ false → eqb k m ≡ false → k ≤ n → eqb n m ≡ false
above_differs k n m low apart le = grind (arith, nat_tests)

pub newest_found : (rows : List (ℕ × ℕ)) (home index : ℕ) (d : ℕ × ℕ) → index < length rows →
    ((j : ℕ) (d : ℕ × ℕ) → j < index → ltb (get_or rows j d).0 home ≡ true) → (get_or rows index d).0 ≡ home →
    newest rows home ≡ (get_or rows index d).1
newest_found rows home index d less low here =
    newest_at rows home index d less (λ j d l. below_differs (get_or rows j d).0 home (low j d l)) (eq-eqb _ _ here)

pub newest_missing : (rows : List (ℕ × ℕ)) (home index : ℕ) → IsNonDecreasingBy home_of rows →
    ((j : ℕ) (d : ℕ × ℕ) → j < index → ltb (get_or rows j d).0 home ≡ true) →
    ((j : ℕ) (d : ℕ × ℕ) → index ≤ j → j < length rows → ltb (get_or rows j d).0 home ≡ false) →
    ((d : ℕ × ℕ) → index < length rows → eqb (get_or rows index d).0 home ≡ false) → newest rows home ≡ home
newest_missing rows home index rise low high differs =
    newest_absent rows home (λ j d l.
    elim (cases_lt j index) as (λ _. eqb (get_or rows j d).0 home ≡ false) [
      | inl before ↦ below_differs (get_or rows j d).0 home (low j d before)
      | inr after ↦ above_differs (get_or rows index d).0 (get_or rows j d).0 home
          (high index d (omega arith) (omega arith)) (differs d (omega arith)) (rise index j d after l)
    ])

pub differs_at : (rows : List (ℕ × ℕ)) (home index : ℕ) (d e : ℕ × ℕ) → index < length rows →
    ((get_or rows index e).0 ≡ home → ⊥) → eqb (get_or rows index d).0 home ≡ false
differs_at rows home index d e less apart =
    false_from_ne_true (eqb (get_or rows index d).0 home)
    (λ is. apart (ap (λ (row : ℕ × ℕ). row.0) (get_or_default rows index e d less) ∙ eqb-true _ _ is))

-- ---- the newest base rests on which rows there are, not on their order
is_row : ℕ → ℕ → ℕ × ℕ → Bool
is_row home base row = eqb row.0 home && eqb row.1 base

is_home : ℕ → ℕ × ℕ → Bool
is_home home row = eqb row.0 home

unlisted : (rows : List (ℕ × ℕ)) (home : ℕ) → list_any (is_home home) rows ≡ false → newest rows home ≡ home
unfolding is_home
unlisted [] home none = refl
unlisted (row ∷ rows) home none =
    elim (eqb row.0 home) as (λ b. (b || list_any (is_home home) rows) ≡ false
    → cond b row.1 (newest rows home) ≡ home) [
      | true ↦ λ none. absurd (false≢true (sym none))
      | false ↦ λ none. unlisted rows home none
    ] none

or_right : (a b : Bool) → b ≡ true → (a || b) ≡ true
or_right true b is = refl
or_right false b is = is

listed : (rows : List (ℕ × ℕ)) (home : ℕ) → list_any (is_home home) rows ≡ true →
    list_any (is_row home (newest rows home)) rows ≡ true
unfolding is_home is_row
listed [] home one = absurd (false≢true one)
listed (row ∷ rows) home one =
    elim (eqb row.0 home) as (λ b. (b || list_any (is_home home) rows) ≡ true
    → ((b && eqb row.1 (cond b row.1 (newest rows home)))
    || list_any (is_row home (cond b row.1 (newest rows home))) rows) ≡ true) [
      | true ↦ λ _. ap (λ b. b || list_any (is_row home row.1) rows) (eq-eqb row.1 row.1 refl)
      | false ↦ λ one. listed rows home one
    ] one

none_alike : (home base k : ℕ) (rows : List (ℕ × ℕ)) → AllByRecursion (λ y. eqb k y ≡ false) (homes rows) → k ≡ home →
    list_any (is_row home base) rows ≡ false
unfolding is_row
none_alike home base k [] apart same = refl
none_alike home base k (row ∷ rows) apart same =
    let differ = eqb-false k row.0 apart.0 in
    elim (eqb row.0 home) as (λ b. eqb row.0 home ≡ b → ((b && eqb row.1 base) || list_any (is_row home base) rows)
    ≡ false) [
      | true ↦ λ is. (let e = eqb-true row.0 home is in absurd (differ (omega arith)))
      | false ↦ λ _. none_alike home base k rows apart.1 same
    ] refl

only_row : (rows : List (ℕ × ℕ)) (home base : ℕ) → IsDistinct eqb (homes rows) →
    list_any (is_row home base) rows ≡ true → newest rows home ≡ base
unfolding is_row IsDistinct
only_row [] home base apart one = absurd (false≢true one)
only_row (row ∷ rows) home base apart one =
    elim (eqb row.0 home) as (λ b. eqb row.0 home ≡ b → ((b && eqb row.1 base) || list_any (is_row home base) rows)
    ≡ true → cond b row.1 (newest rows home) ≡ base) [
      | true ↦ λ is one. elim (or_cases (eqb row.1 base) (list_any (is_row home base) rows) one) as (λ _. row.1
          ≡ base) [
            | inl here ↦ eqb-true row.1 base here
            | inr later ↦ absurd (false≢true (sym (none_alike home base row.0 rows apart.0 (eqb-true row.0 home is))
                ∙ later))
          ]
      | false ↦ λ _ one. only_row rows home base apart.1 one
    ] refl one

pub newest_moved : (rows moved : List (ℕ × ℕ)) → IsDistinct eqb (homes rows) → IsPermutation rows moved → (home : ℕ) →
    newest moved home ≡ newest rows home
newest_moved rows moved apart same home =
    let alike = list_any-IsPermutation (is_home home) rows moved same in
    elim (list_any (is_home home) moved) as (λ b. list_any (is_home home) moved ≡ b
    → newest moved home ≡ newest rows home) [
      | true ↦ λ is. sym (only_row rows home (newest moved home) apart
          (list_any-IsPermutation (is_row home (newest moved home)) rows moved same ∙ listed moved home is))
      | false ↦ λ is. unlisted moved home is ∙ sym (unlisted rows home (alike ∙ is))
    ] refl
