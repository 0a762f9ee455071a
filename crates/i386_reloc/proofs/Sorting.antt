-- Relocations that a stable sort put by offset are those of each offset in turn.
use Rattle.std.proofs.Common.{◌≡◌, ℕ, zero, suc, ◌<◌, ◌≤◌, ◌==◌, nat_lt, not, Bool, true, false, ◌&&◌, cond}
use Rattle.std.proofs.Common.{List, [], ◌∷◌, ◌++◌, length, get_or, refl, sym, ap, ◌∙◌, inl, inr, arith, All}
use Rattle.std.specs.List.{filter}
use Rattle.std.specs.List.Sorted.{IsNonDecreasingBy, IsSortedByKey, IsStableByKey, ties}
use Rattle.std.specs.Ordering.{nat_cmp, is_lt}
use Rattle.std.specs.declared.cmp.Ordering.TheVariants.{Less, Equal, Greater}
use Rattle.std.proofs.lemmas.Bool.{cases_lt, lt-ltb}
use Rattle.std.proofs.lemmas.Bool.Decides.{nat_tests}
use Rattle.std.proofs.lemmas.List.Elements.{filter_agree}
use Rattle.std.proofs.lemmas.List.Sorted.{IsNonDecreasingBy-from_sort}
use Rattle.elf32_object.specs.declared.types.Reloc.{Reloc}
use Rattle.elf32_object.specs.Below.{all_below}
use Rattle.elf32_object.specs.Rules.{has_field}
use Rattle.i386_reloc.specs.References.{changes_at, by_offset}

abbrev is_at : ℕ → Reloc → Bool
is_at n r = r.offset == n

abbrev is_below : ℕ → Reloc → Bool
is_below n r = nat_lt r.offset n

-- relocations whose offsets don't fall, from a bound on
abbrev Rises : ℕ → List Reloc → Type 0
Rises low [] = Unit {0}
Rises low (r ∷ rs) = (low ≤ r.offset) × Rises r.offset rs

rises_from : (low : ℕ) (rs : List Reloc) → IsNonDecreasingBy (λ r. r.offset) rs
    → ((d : Reloc) → 0 < length rs → low ≤ (get_or rs 0 d).offset) → Rises low rs
rises_from low [] up first = tt
rises_from low (r ∷ rs) up first = (
  first r (omega arith),
  rises_from r.offset rs (λ i j d le l. up (suc i) (suc j) d (omega arith) (omega arith))
      (λ d some. up 0 1 d (omega arith) (omega arith)),
)

none_at : (n low : ℕ) (rs : List Reloc) → Rises low rs → n < low → filter (is_at n) rs ≡ []
none_at n low [] up l = refl
none_at n low (r ∷ rs) up l =
    let apart : is_at n r ≡ false = grind (arith, nat_tests, up.0) in
    rw apart (none_at n r.offset rs up.1 (omega (arith, up.0)))

none_below : (n low : ℕ) (rs : List Reloc) → Rises low rs → n ≤ low → filter (is_below n) rs ≡ []
none_below n low [] up l = refl
none_below n low (r ∷ rs) up l =
    let apart : is_below n r ≡ false = grind (arith, nat_tests, up.0) in
    rw apart (none_below n r.offset rs up.1 (omega (arith, up.0)))

-- those below one offset more
one_more : (n low : ℕ) (rs : List Reloc) → Rises low rs
    → filter (is_below (suc n)) rs ≡ filter (is_below n) rs ++ filter (is_at n) rs
one_more n low [] up = refl
one_more n low (r ∷ rs) up =
    let rest = one_more n r.offset rs up.1 in
    elim (cases_lt r.offset n) [
      | inl lt ↦
          let a : is_below (suc n) r ≡ true = grind (arith, nat_tests) in
          let b : is_below n r ≡ true = grind (arith, nat_tests) in
          let c : is_at n r ≡ false = grind (arith, nat_tests) in
          rw (a, b, c) (ap (λ xs. r ∷ xs) rest)
      | inr le ↦
          elim (cases_lt n r.offset) [
            | inl lt ↦ none_below (suc n) (suc n) (r ∷ rs) (omega arith, up.1) (omega arith)
                ∙ sym (ap (λ xs. xs ++ filter (is_at n) (r ∷ rs)) (none_below n n (r ∷ rs) (le, up.1) (omega arith))
                ∙ none_at n r.offset (r ∷ rs) (omega arith, up.1) lt)
            | inr ge ↦
                let a : is_below (suc n) r ≡ true = grind (arith, nat_tests) in
                let b : is_below n r ≡ false = grind (arith, nat_tests) in
                let c : is_at n r ≡ true = grind (arith, nat_tests) in
                let none = none_below n r.offset rs up.1 le in
                rw (a, b, c) (ap (λ xs. r ∷ xs) (rest ∙ ap (λ xs. xs ++ filter (is_at n) rs) none)
                ∙ sym (ap (λ xs. xs ++ r ∷ filter (is_at n) rs) none))
          ]
    ]

offset_by_offset : (n : ℕ) (rs : List Reloc) → Rises 0 rs
    → filter (is_below n) rs ≡ all_below (λ o. filter (is_at o) rs) n
offset_by_offset zero rs up = none_below 0 0 rs up (omega arith)
offset_by_offset (suc n) rs up =
    one_more n 0 rs up ∙ ap (λ xs. xs ++ filter (is_at n) rs) (offset_by_offset n rs up)

all_are_below : (n : ℕ) (rs : List Reloc) → All (λ r. r.offset < n) rs → filter (is_below n) rs ≡ rs
all_are_below n [] all = refl
all_are_below n (r ∷ rs) all =
    let here : is_below n r ≡ true = lt-ltb r.offset n (all 0 r (omega arith)) in
    rw here (ap (λ xs. r ∷ xs) (all_are_below n rs (λ k d within. all (suc k) d (omega (arith, within)))))

same_below : {X : Type 0} (f g : ℕ → List X) (n : ℕ) → ((o : ℕ) → f o ≡ g o) → all_below f n ≡ all_below g n
same_below f g zero same = refl
same_below f g (suc n) same = ap (λ xs. xs ++ f n) (same_below f g n same) ∙ ap (λ xs. all_below g n ++ xs) (same n)

-- those of one offset, of all relocations
chosen_at : (n : ℕ) (has : Bool) (r : Reloc) (fields rest : List Reloc) → filter (is_at n) fields ≡ rest
    → filter (is_at n) (cond has (r ∷ fields) fields) ≡ cond (has && is_at n r) (r ∷ rest) rest
chosen_at n true r fields rest e = ap (λ xs. cond (is_at n r) (r ∷ xs) xs) e
chosen_at n false r fields rest e = e

fields_at : (n : ℕ) (rs : List Reloc) → filter (is_at n) (filter has_field rs) ≡ filter (changes_at n) rs
fields_at n [] = refl
fields_at n (r ∷ rs) = chosen_at n (has_field r) r (filter has_field rs) (filter (changes_at n) rs) (fields_at n rs)

-- what a stable sort says
less_is : (a b : ℕ) → is_lt (nat_cmp a b) ≡ nat_lt a b
less_is a b =
    elim (nat_lt a b) as (λ v. is_lt (cond v Less (cond (a == b) Equal Greater)) ≡ v) [
      | true ↦ refl
      | false ↦ elim (a == b) as (λ w. is_lt (cond w Equal Greater) ≡ false) [ true ↦ refl | false ↦ refl ]
    ]

neither_less : (a b : ℕ) → not (nat_lt a b) && not (nat_lt b a) ≡ (b == a)
neither_less a b = grind (arith, nat_tests)

abbrev less_offset : Reloc → Reloc → Bool
less_offset r s = is_lt (nat_cmp r.offset s.offset)

ties_is : (r s : Reloc) → ties less_offset r s ≡ is_at r.offset s
ties_is r s = rw (less_is r.offset s.offset, less_is s.offset r.offset) (neither_less r.offset s.offset)

same_at : (rs ss : List Reloc) → IsStableByKey (λ r. r.offset) nat_cmp rs ss → (n : ℕ)
    → filter (is_at n) ss ≡ filter (is_at n) rs
same_at rs ss stable n =
    let z : Reloc = record { offset = n; symbol = 0; kind = 0; from = 0; index = 0 } in
    sym (filter_agree (ties less_offset z) (is_at n) (ties_is z) ss) ∙ stable z
    ∙ filter_agree (ties less_offset z) (is_at n) (ties_is z) rs

pub sorted_is : (relocations fields sorted : List Reloc) → fields ≡ filter has_field relocations
    → IsSortedByKey (λ r. r.offset) nat_cmp sorted → IsStableByKey (λ r. r.offset) nat_cmp fields sorted → (bound : ℕ)
    → All (λ r. r.offset < bound) sorted → sorted ≡ by_offset relocations bound
unfolding by_offset
sorted_is relocations fields sorted are up stable bound within =
    sym (all_are_below bound sorted within)
    ∙ offset_by_offset bound sorted
    (rises_from 0 sorted (IsNonDecreasingBy-from_sort (λ r. r.offset) sorted up) (λ d some. omega arith))
    ∙ same_below (λ o. filter (is_at o) sorted) (λ o. filter (changes_at o) relocations) bound
    (λ o. same_at fields sorted stable o ∙ ap (filter (is_at o)) are ∙ fields_at o relocations)
