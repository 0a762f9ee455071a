-- Laws of the least address above an address.
use Rattle.std.proofs.Common.{◌≡◌, ℕ, suc, ◌<◌, ◌≤◌, Bool, true, false, cond, not, ◌||◌, ◌&&◌}
use Rattle.std.proofs.Common.{eqb, ltb, leb, List, [], ◌∷◌, map, min, length, get_or, drop}
use Rattle.std.proofs.Common.{refl, sym, ◌∙◌, ap, Option, Some, None, inl, inr, arith}
use Rattle.std.specs.List.{filter, fold, reduce, list_any, between}
use Rattle.std.specs.List.Sorted.{IsNonDecreasingBy}
use Rattle.std.proofs.lemmas.Bool.Decides.{nat_tests}
use Rattle.std.proofs.lemmas.Bool.{and_left, and_right, or_from, or_left, or_right, or_parts}
use Rattle.std.proofs.lemmas.Bool.{false≢true, ltb-true, ltb-false, lt-ltb, le-ltb, leb-true}
use Rattle.std.proofs.lemmas.Bool.{eqb-true, eq-eqb, cases_lt, or_cases, false_from_ne_true}
use Rattle.std.proofs.lemmas.List.Folds.{list_any-append, list_any_at}
use Rattle.symbol_table.specs.declared.symbols.Symbol.{Symbol}
use Rattle.symbol_table.specs.declared.entries.Entry.{Entry}
use Rattle.symbol_table.specs.declared.entries.Index.TheVariants.{Functions, Data}
use Rattle.symbol_table.specs.Symbols.{address_of, next_address}
use Rattle.symbol_table.specs.inside.Entries.{is_in, HasAll}
use Rattle.symbol_table.specs.inside.Next.{any_address, IsNext, lesser}
use Rattle.symbol_table.proofs.BlockLaws.{drop_between}
use Rattle.symbol_table.proofs.EntryLaws.{any_entry}

-- ---- a test that is stronger finds nothing either
none_weaker : {X : Type 0} (p q : X → Bool) (xs : List X) → ((x : X) → p x ≡ false → q x ≡ false) →
    list_any p xs ≡ false → list_any q xs ≡ false
none_weaker p q [] weak none = refl
none_weaker p q (x ∷ xs) weak none =
    or_from (q x) (list_any q xs) (weak x (or_parts (p x) (list_any p xs) none).0)
    (none_weaker p q xs weak (or_parts (p x) (list_any p xs) none).1)

none_by_place : {X : Type 0} (p : X → Bool) (xs : List X) (d : X) →
    ((k : ℕ) → k < length xs → p (get_or xs k d) ≡ false) → list_any p xs ≡ false
none_by_place p [] d each = refl
none_by_place p (x ∷ xs) d each = ap (λ b. b || list_any p xs) (each 0 (omega arith))
    ∙ none_by_place p xs d (λ k less. each (suc k) (omega arith))

-- ---- of two lists
-- a number between is between wider ones
between_less : (low m n x : ℕ) → n ≤ m → (ltb low x && ltb x m) ≡ false → (ltb low x && ltb x n) ≡ false
between_less low m n x le none =
    elim (ltb low x) as (λ b. (b && ltb x m) ≡ false → (b && ltb x n) ≡ false) [
      | true ↦ λ past. le-ltb x n (let far = ltb-false x m past in omega arith)
      | false ↦ λ _. refl
    ] none

pub next_joined : (low : ℕ) (xs ys : List Entry) (a b : Option ℕ) → IsNext low (any_address xs) a →
    IsNext low (any_address ys) b → IsNext low (λ test. any_address xs test || any_address ys test) (lesser a b)
next_joined low xs ys None None is_a is_b = or_from _ _ is_a is_b
next_joined low xs ys None (Some n) is_a is_b = (
  is_b.0,
  or_right _ _ is_b.1,
  or_from _ _
      (none_weaker (λ entry. ltb low entry.address) _ xs
      (λ entry. and_left (ltb low entry.address) (ltb entry.address n))
      is_a) is_b.2,
)
next_joined low xs ys (Some m) None is_a is_b = (
  is_a.0,
  or_left _ _ is_a.1,
  or_from _ _ is_a.2
      (none_weaker (λ entry. ltb low entry.address) _ ys
      (λ entry. and_left (ltb low entry.address) (ltb entry.address m))
      is_b),
)
next_joined low xs ys (Some m) (Some n) is_a is_b =
    elim (ltb n m) as (λ b. ltb n m ≡ b → IsNext low (λ test. any_address xs test || any_address ys test)
    (cond b (Some n) (Some m))) [
      | true ↦ λ is. let less = ltb-true n m is in (
        is_b.0,
        or_right _ _ is_b.1,
        or_from _ _
            (none_weaker (λ entry. ltb low entry.address && ltb entry.address m) _ xs
            (λ entry. between_less low m n entry.address (omega arith)) is_a.2) is_b.2,
      )
      | false ↦ λ is. let le = ltb-false n m is in (
        is_a.0,
        or_left _ _ is_a.1,
        or_from _ _ is_a.2
            (none_weaker (λ entry. ltb low entry.address && ltb entry.address n) _ ys
            (λ entry. between_less low n m entry.address le) is_b.2),
      )
    ] refl

-- the same numbers have the same next one
pub next_alike : (low : ℕ) (any other : (ℕ → Bool) → Bool) (o : Option ℕ) →
    ((test : ℕ → Bool) → any test ≡ other test) → IsNext low any o → IsNext low other o
next_alike low any other None alike is = sym (alike (ltb low)) ∙ is
next_alike low any other (Some n) alike is =
    (is.0, sym (alike (eqb n)) ∙ is.1, sym (alike (λ m. ltb low m && ltb m n)) ∙ is.2)

-- one block more is looked through
pub next_more : (low : ℕ) (entries : List Entry) (begin end : ℕ) (a b : Option ℕ) → begin ≤ end →
    IsNext low (any_address (between begin end entries)) a → IsNext low (any_address (drop end entries)) b →
    IsNext low (any_address (drop begin entries)) (lesser a b)
next_more low entries begin end a b order is_a is_b =
    next_alike low _ _ (lesser a b) (λ test.
    sym (list_any-append (λ entry. test entry.address) (between begin end entries) (drop end entries))
    ∙ ap (list_any (λ entry. test entry.address)) (sym (drop_between entries begin end order)))
    (next_joined low (between begin end entries) (drop end entries) a b is_a is_b)

-- ---- what a search by halving finds
pub next_none : (low : ℕ) (entries : List Entry) (d : Entry) →
    ((k : ℕ) → k < length entries → leb (get_or entries k d).address low ≡ true) →
    IsNext low (any_address entries) None
next_none low entries d under = none_by_place (λ entry. ltb low entry.address) entries d
    (λ k less. le-ltb low (get_or entries k d).address (leb-true (get_or entries k d).address low (under k less)))

pub next_some : (low : ℕ) (entries : List Entry) (place : ℕ) (d : Entry) →
    IsNonDecreasingBy (λ (entry : Entry). entry.address) entries → place < length entries →
    ((k : ℕ) → k < place → leb (get_or entries k d).address low ≡ true) →
    leb (get_or entries place d).address low ≡ false →
    IsNext low (any_address entries) (Some (get_or entries place d).address)
next_some low entries place d rise less under over =
    let n = (get_or entries place d).address in (
      over_is low n over,
      list_any_at (λ entry. eqb n entry.address) entries place d less (eq-eqb n n refl),
      none_by_place (λ entry. ltb low entry.address && ltb entry.address n) entries d (λ k within.
          elim (cases_lt k place) as (λ _. (ltb low (get_or entries k d).address && ltb (get_or entries k d).address n)
          ≡ false) [
            | inl before ↦ and_left _ _ (le-ltb low (get_or entries k d).address
                (leb-true (get_or entries k d).address low (under k before)))
            | inr after ↦ and_right (ltb low (get_or entries k d).address) _
                (le-ltb (get_or entries k d).address n (rise place k d after within))
          ]),
    )
  where
    over_is : (a n : ℕ) → leb n a ≡ false → ltb a n ≡ true
    over_is a n is = grind (arith, nat_tests)

-- ---- the least number above a number is one
any_equal : (p : ℕ → Bool) (n : ℕ) (ns : List ℕ) → p n ≡ true → list_any (eqb n) ns ≡ true → list_any p ns ≡ true
any_equal p n [] holds one = one
any_equal p n (m ∷ ms) holds one =
    elim (or_cases (eqb n m) (list_any (eqb n) ms) one) as (λ _. (p m || list_any p ms) ≡ true) [
      | inl is ↦ or_left _ _ (ap p (sym (eqb-true n m is)) ∙ holds)
      | inr later ↦ or_right _ _ (any_equal p n ms holds later)
    ]

numbers_next : (low : ℕ) (ns : List ℕ) (a b : Option ℕ) → IsNext low (λ test. list_any test ns) a →
    IsNext low (λ test. list_any test ns) b → a ≡ b
numbers_next low ns None None is_a is_b = refl
numbers_next low ns None (Some n) is_a is_b = absurd (false≢true (sym is_a ∙ any_equal (ltb low) n ns is_b.0 is_b.1))
numbers_next low ns (Some m) None is_a is_b = absurd (false≢true (sym is_b ∙ any_equal (ltb low) m ns is_a.0 is_a.1))
numbers_next low ns (Some m) (Some n) is_a is_b =
    let no_less : (x y : ℕ) → ltb low x ≡ true → list_any (eqb x) ns ≡ true
    → list_any (λ k. ltb low k && ltb k y) ns ≡ false → y ≤ x = λ x y above one none.
    ltb-false x y (false_from_ne_true (ltb x y)
    (λ less. false≢true (sym none ∙ any_equal (λ k. ltb low k && ltb k y) x ns
    (ap (λ b. b && ltb x y) above ∙ less) one))) in
    let one = no_less m n is_a.0 is_a.1 is_b.2 in
    let other = no_less n m is_b.0 is_b.1 is_a.2 in
    ap Some (omega arith)

fold_next : (low n : ℕ) (ns : List ℕ) → ltb low n ≡ true →
    IsNext low (λ test. test n || list_any test ns) (Some (fold min n (filter (ltb low) ns)))
fold_next low n [] above = (
  above,
  or_left _ _ (eq-eqb n n refl),
  or_from _ _
      (ap (λ b. b && ltb n n) above ∙ le-ltb n n (omega arith)) refl,
)
fold_next low n (m ∷ ms) above =
    elim (ltb low m) as (λ b. ltb low m ≡ b → IsNext low (λ test. test n || (test m || list_any test ms))
    (Some (fold min n (cond b (m ∷ filter (ltb low) ms) (filter (ltb low) ms))))) [
      | true ↦ λ is.
          let both : ltb low (min n m) ≡ true = lt-ltb low (min n m)
          (omega (arith, ltb-true low n above, ltb-true low m is)) in
          let f = fold min (min n m) (filter (ltb low) ms) in
          let ih = fold_next low (min n m) ms both in
          let le : f ≤ min n m = ltb-false (min n m) f (sym (ap (λ b. b && ltb (min n m) f) both)
          ∙ (or_parts _ _ ih.2).0) in (
            ih.0,
            elim (or_cases (eqb f (min n m)) (list_any (eqb f) ms) ih.1) as (λ _.
                (eqb f n || (eqb f m || list_any (eqb f) ms)) ≡ true) [
                  | inl same ↦
                      let e : f ≡ min n m = eqb-true f (min n m) same in
                      elim (cases_lt m n) as (λ _. (eqb f n || (eqb f m || list_any (eqb f) ms)) ≡ true) [
                        | inl less ↦ or_right (eqb f n) _ (or_left (eqb f m) _ (eq-eqb f m (omega arith)))
                        | inr more ↦ or_left (eqb f n) _ (eq-eqb f n (omega arith))
                      ]
                  | inr later ↦ or_right (eqb f n) _ (or_right (eqb f m) _ later)
                ],
            or_from _ _ (and_right (ltb low n) _ (le-ltb n f (omega arith)))
                (or_from _ _ (and_right (ltb low m) _ (le-ltb m f (omega arith))) (or_parts _ _ ih.2).1),
          )
      | false ↦ λ is.
          let f = fold min n (filter (ltb low) ms) in
          let ih = fold_next low n ms above in (
            ih.0,
            elim (or_cases (eqb f n) (list_any (eqb f) ms) ih.1) as (λ _.
                (eqb f n || (eqb f m || list_any (eqb f) ms)) ≡ true) [
                  | inl same ↦ or_left (eqb f n) _ same
                  | inr later ↦
                      or_right (eqb f n) _ (or_right (eqb f m) _ later)
                ],
            or_from _ _ (or_parts _ _ ih.2).0 (or_from _ _ (and_left (ltb low m) _ is) (or_parts _ _ ih.2).1),
          )
    ] refl

-- a number that isn't above changes nothing
next_passed : (low n : ℕ) (ns : List ℕ) → ltb low n ≡ false → (o : Option ℕ) →
    IsNext low (λ test. list_any test ns) o → IsNext low (λ test. test n || list_any test ns) o
next_passed low n ns under None is = or_from _ _ under is
next_passed low n ns under (Some m) is = (is.0, or_right _ _ is.1, or_from _ _ (and_left (ltb low n) _ under) is.2)

next_reduced : (low : ℕ) (ns : List ℕ) → IsNext low (λ test. list_any test ns) (reduce min (filter (ltb low) ns))
next_reduced low [] = refl
next_reduced low (n ∷ ns) =
    elim (ltb low n) as (λ b. ltb low n ≡ b → IsNext low (λ test. test n || list_any test ns)
    (reduce min (cond b (n ∷ filter (ltb low) ns) (filter (ltb low) ns)))) [
      | true ↦ λ is. fold_next low n ns is
      | false ↦ λ is. next_passed low n ns is (reduce min (filter (ltb low) ns)) (next_reduced low ns)
    ] refl

-- ---- the functions and the data are all symbols
both_kinds : (test : ℕ → Bool) (symbols : List Symbol) →
    (list_any (λ symbol. is_in Functions symbol && test symbol.address) symbols
    || list_any (λ symbol. is_in Data symbol && test symbol.address) symbols) ≡ list_any test (map address_of symbols)
both_kinds test [] = refl
both_kinds test (symbol ∷ rest) =
    elim
    symbol.function as (λ f. (((f && test symbol.address) || list_any (λ s. is_in Functions s && test s.address) rest)
    || ((not f && test symbol.address) || list_any (λ s. is_in Data s && test s.address) rest))
    ≡ (test symbol.address || list_any test (map address_of rest))) [
      | true ↦ moved_left (test symbol.address) _ _ ∙ ap (λ b. test symbol.address || b) (both_kinds test rest)
      | false ↦ moved_right (test symbol.address) _ _ ∙ ap (λ b. test symbol.address || b) (both_kinds test rest)
    ]
  where
    moved_left : (a b c : Bool) → ((a || b) || c) ≡ (a || (b || c))
    moved_left true b c = refl
    moved_left false b c = refl

    moved_right : (a b c : Bool) → (b || (a || c)) ≡ (a || (b || c))
    moved_right true true c = refl
    moved_right true false c = refl
    moved_right false b c = refl

pub next_found : (symbols : List Symbol) (functions others : List Entry) (low : ℕ) (a b : Option ℕ) →
    HasAll Functions symbols functions → HasAll Data symbols others → IsNext low (any_address functions) a →
    IsNext low (any_address others) b → lesser a b ≡ next_address symbols low
next_found symbols functions others low a b has_functions has_others is_a is_b =
    let numbers = map address_of symbols in
    numbers_next low numbers (lesser a b) (next_address symbols low)
    (next_alike low _ _ (lesser a b) (λ test.
    ap (λ b. b || any_address others test)
    (any_entry Functions symbols functions (λ entry. test entry.address) (λ symbol. test symbol.address) has_functions
    (λ k symbol is. refl))
    ∙ ap (λ b. list_any (λ symbol. is_in Functions symbol && test symbol.address) symbols || b)
    (any_entry Data symbols others (λ entry. test entry.address) (λ symbol. test symbol.address) has_others
    (λ k symbol is. refl))
    ∙ both_kinds test symbols) (next_joined low functions others a b is_a is_b))
    (next_reduced low numbers)
