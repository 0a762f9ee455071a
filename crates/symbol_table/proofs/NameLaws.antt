-- Laws of the index of names.
use Rattle.std.proofs.Common.{◌≡◌, ℕ, suc, zero, ◌+◌, ◌<◌, ◌≤◌, Bool, true, false, cond, not, ◌||◌}
use Rattle.std.proofs.Common.{◌&&◌, eqb, ltb, leb, List, [], ◌∷◌, ◌++◌, map, length, get_or, take}
use Rattle.std.proofs.Common.{drop, refl, sym, ◌∙◌, ap, subst, Option, Some, None, inl, inr, arith}
use Rattle.std.specs.List.{slice_get, between, filter, filter_map, cons_option, list_any}
use Rattle.std.specs.List.Sorted.{IsSortedBy, IsPartitionedBy, IsPartitionPoint, IsPermutation, IsNonDecreasingBy}
use Rattle.std.specs.Ordering.{nat_cmp, ordering_then, ordering_reverse, is_lt, is_le, is_eq, ordering_index}
use Rattle.std.specs.declared.cmp.Ordering.{Ordering}
use Rattle.std.specs.declared.cmp.Ordering.TheVariants.{Less, Equal, Greater}
use Rattle.std.specs.Cmp.Lexicographic.{slice_cmp}
use Rattle.std.proofs.lemmas.Bool.{and_right, or_right, false≢true, cond-true}
use Rattle.std.proofs.lemmas.Bool.{cond-false, false_from_ne_true, ltb-false, cases_lt}
use Rattle.std.proofs.lemmas.Bool.Decides.{nat_tests}
use Rattle.std.proofs.lemmas.Cmp.{nat_list_cmp_total}
use Rattle.std.proofs.lemmas.List.{take-append-drop}
use Rattle.std.proofs.lemmas.List.Elements.{filter-append, filter_map-append}
use Rattle.std.proofs.lemmas.List.Folds.{list_any-append, list_any_at}
use Rattle.std.proofs.lemmas.List.Kept.{IsSortedBy-filter}
use Rattle.std.proofs.lemmas.List.Sorted.{searchable_from_sorted, IsPermutation-trans}
use Rattle.std.proofs.lemmas.List.Sorted.{IsPermutation-append_left, IsPermutation-append_comm}
use Rattle.std.proofs.lemmas.List.Sorted.{list_any-IsPermutation, IsNonDecreasingBy-from_all_adjacent}
use Rattle.std.proofs.lemmas.Map.Text.{is_eq-slice_cmp}
use Rattle.std.proofs.lemmas.Map.Views.{any-filter_same}
use Rattle.symbol_table.specs.declared.symbols.Symbol.{Symbol}
use Rattle.symbol_table.specs.declared.entries.Entry.{Entry}
use Rattle.symbol_table.specs.declared.entries.Index.TheVariants.{Globals, Names}
use Rattle.symbol_table.specs.declared.kinds.Kind.{Kind}
use Rattle.symbol_table.specs.inside.Kinds.{is_of_kind, is_listed}
use Rattle.symbol_table.specs.Symbols.{ascending, addresses_of, address_of, is_named, is_global_named, global_addresses}
use Rattle.symbol_table.specs.inside.Entries.{name_of, order_of, order_at, address_order, name_less, HasAll}
use Rattle.symbol_table.specs.inside.Names.{is_before, is_not_after, is_named_at, stands_at}
use Rattle.symbol_table.specs.inside.Names.{kind_address, found_at, is_entry_of}
use Rattle.symbol_table.proofs.BlockLaws.{drop_between}
use Rattle.symbol_table.specs.laws.AscendingLaws.{has, same_members, has-ascending, ascends-ascending}
use Rattle.symbol_table.proofs.EntryLaws.{entry_laws, any_entry}

-- ---- what a search by halving finds
lt_stays : (a b : Ordering) → ordering_index a ≤ ordering_index b → is_lt b ≡ true → is_lt a ≡ true
lt_stays Less b le is = refl
lt_stays Equal Less le is = absurd (omega arith)
lt_stays Equal Equal le is = is
lt_stays Equal Greater le is = is
lt_stays Greater Less le is = absurd (omega arith)
lt_stays Greater Equal le is = is
lt_stays Greater Greater le is = is

le_stays : (a b : Ordering) → ordering_index a ≤ ordering_index b → is_le b ≡ true → is_le a ≡ true
le_stays Less b le is = refl
le_stays Equal b le is = refl
le_stays Greater Less le is = absurd (omega arith)
le_stays Greater Equal le is = absurd (omega arith)
le_stays Greater Greater le is = is

then_first : (a b : Ordering) → is_lt (ordering_then a b) ≡ false → is_lt a ≡ false
then_first Less b none = none
then_first Equal b none = refl
then_first Greater b none = refl

names_rise : (symbols : List Symbol) (entries : List Entry) → IsSortedBy (name_less symbols) entries →
    IsSortedBy (λ entry other. is_lt (order_at symbols (name_of (slice_get symbols other.place)) entry)) entries
names_rise symbols entries up k d low less = then_first
    (order_at symbols (name_of (slice_get symbols (get_or entries k d).place)) (get_or entries (k + 1) d)) _
    (up k d low less)

pub parted_before : (symbols : List Symbol) (entries : List Entry) (name : List ℕ) →
    IsSortedBy (name_less symbols) entries → IsPartitionedBy (is_before symbols name) entries
parted_before symbols entries name up i j d le less is =
    lt_stays (order_at symbols name (get_or entries i d)) (order_at symbols name (get_or entries j d))
    (searchable_from_sorted nat_list_cmp_total (λ (entry : Entry). name_of (slice_get symbols entry.place)) entries name
    (names_rise symbols entries up) i j d le less) is

pub parted_up_to : (symbols : List Symbol) (entries : List Entry) (name : List ℕ) →
    IsSortedBy (name_less symbols) entries → IsPartitionedBy (is_not_after symbols name) entries
parted_up_to symbols entries name up i j d le less is =
    le_stays (order_at symbols name (get_or entries i d)) (order_at symbols name (get_or entries j d))
    (searchable_from_sorted nat_list_cmp_total (λ (entry : Entry). name_of (slice_get symbols entry.place)) entries name
    (names_rise symbols entries up) i j d le less) is

-- ---- a part of a list that a test passes, and no more
pub filter_part : {X : Type 0} (p : X → Bool) (xs : List X) (low k : ℕ) → low + k ≤ length xs →
    ((j : ℕ) (d : X) → j < low → p (get_or xs j d) ≡ false) →
    ((j : ℕ) (d : X) → low ≤ j → j < low + k → p (get_or xs j d) ≡ true) →
    ((j : ℕ) (d : X) → low + k ≤ j → j < length xs → p (get_or xs j d) ≡ false) → take k (drop low xs) ≡ filter p xs
filter_part p [] zero zero le below within above = refl
filter_part p [] zero (suc k) le below within above = absurd (omega arith)
filter_part p [] (suc low) k le below within above = absurd (omega arith)
filter_part p (x ∷ xs) (suc low) k le below within above =
    filter_part p xs low k (omega arith) (λ j d l. below (suc j) d (omega arith))
    (λ j d g l. within (suc j) d (omega arith) (omega arith)) (λ j d g l. above (suc j) d (omega arith) (omega arith))
    ∙ sym (cond-false _ _ _ (below 0 x (omega arith)))
filter_part p (x ∷ xs) zero (suc k) le below within above =
    ap (λ ys. x ∷ ys) (filter_part p xs zero k (omega arith) (λ j d l. absurd (omega arith))
    (λ j d g l. within (suc j) d (omega arith) (omega arith)) (λ j d g l. above (suc j) d (omega arith) (omega arith)))
    ∙ sym (cond-true _ _ _ (within 0 x (omega arith) (omega arith)))
filter_part p (x ∷ xs) zero zero le below within above =
    filter_part p xs zero zero (omega arith) (λ j d l. absurd (omega arith)) (λ j d g l. absurd (omega arith))
    (λ j d g l. above (suc j) d (omega arith) (omega arith))
    ∙ sym (cond-false _ _ _ (above 0 x (omega arith) (omega arith)))

pub named_between : (o : Ordering) → is_lt o ≡ false → is_le o ≡ true → is_eq o ≡ true
named_between Less low high = sym low
named_between Equal low high = refl
named_between Greater low high = high

pub before_not_named : (o : Ordering) → is_lt o ≡ true → is_eq o ≡ false
before_not_named Less low = refl
before_not_named Equal low = sym low
before_not_named Greater low = refl

pub after_not_named : (o : Ordering) → is_le o ≡ false → is_eq o ≡ false
after_not_named Less high = refl
after_not_named Equal high = high
after_not_named Greater high = refl

pub before_up_to : (o : Ordering) → is_lt o ≡ true → is_le o ≡ true
before_up_to Less low = refl
before_up_to Equal low = refl
before_up_to Greater low = absurd (false≢true low)

-- the point of a test that passes more is no earlier
pub points_rise : (p q : Entry → Bool) (xs : List Entry) (i j : ℕ) →
    IsPartitionPoint (λ x. p x ≡ true) (λ x. p x ≡ false) xs i →
    IsPartitionPoint (λ x. q x ≡ true) (λ x. q x ≡ false) xs j → i ≤ length xs →
    ((x : Entry) → p x ≡ true → q x ≡ true) → i ≤ j
points_rise p q xs i j low high within weak =
    let d : Entry = record { address = 0; place = 0 } in
    elim (cases_lt j i) as (λ _. i ≤ j) [
      | inl less ↦ absurd (false≢true (sym (high.1 j d (omega arith) (omega arith))
          ∙ weak (get_or xs j d) (low.0 j d (omega arith) less)))
      | inr le ↦ le
    ]

-- ---- the tests of an address
pub under_up_to : (a n : ℕ) → ltb n a ≡ true → leb n a ≡ true
under_up_to a n is = grind (arith, nat_tests)

pub under_not_at : (a n : ℕ) → ltb n a ≡ true → eqb a n ≡ false
under_not_at a n is = grind (arith, nat_tests)

pub between_at : (a n : ℕ) → ltb n a ≡ false → leb n a ≡ true → eqb a n ≡ true
between_at a n low high = grind (arith, nat_tests)

pub over_not_at : (a n : ℕ) → leb n a ≡ false → eqb a n ≡ false
over_not_at a n is = grind (arith, nat_tests)

-- ---- entries of one name are in order of their addresses
equal_is : (o : Ordering) → is_eq o ≡ true → o ≡ Equal
equal_is Less is = absurd (false≢true is)
equal_is Equal is = refl
equal_is Greater is = absurd (false≢true is)

same_names : (x y name : List ℕ) → is_eq (slice_cmp nat_cmp x name) ≡ true → is_eq (slice_cmp nat_cmp y name) ≡ true →
    slice_cmp nat_cmp x y ≡ Equal
same_names x y name is_x is_y =
    let one = equal_is (slice_cmp nat_cmp x name) is_x in
    let other = equal_is (slice_cmp nat_cmp y name) is_y in
    nat_list_cmp_total.congr x name y one ∙ nat_list_cmp_total.antisymm name y ∙ ap ordering_reverse other

address_rises : (a b p q : ℕ) → is_lt (ordering_then (nat_cmp b a) (nat_cmp p q)) ≡ false → a ≤ b
address_rises a b p q none =
    elim (ltb b a) as (λ t. ltb b a ≡ t
    → is_lt (ordering_then (cond t Less (cond (eqb b a) Equal Greater)) (nat_cmp p q)) ≡ false → a ≤ b) [
      | true ↦ λ _ wrong. absurd (false≢true (sym wrong))
      | false ↦ λ low _. ltb-false b a low
    ] refl none

named_all : (symbols : List Symbol) (name : List ℕ) (entries : List Entry) (k : ℕ) (d : Entry) →
    k < length (filter (is_named_at symbols name) entries) →
    is_named_at symbols name (get_or (filter (is_named_at symbols name) entries) k d) ≡ true
named_all symbols name entries k d less =
    let named = is_named_at symbols name in
    let other : Entry → Bool = λ entry. not (named entry) in
    let none : list_any other (filter named entries) ≡ false =
    any-filter_same other named false (λ entry. not_true (named entry)) entries in
    true_from_not (named (get_or (filter named entries) k d))
    (false_from_ne_true (other (get_or (filter named entries) k d))
    (λ is. false≢true (sym none ∙ list_any_at other (filter named entries) k d less is)))
  where
    not_true : (b : Bool) → not b ≡ true → b ≡ false
    not_true true is = sym is
    not_true false is = refl

    true_from_not : (b : Bool) → not b ≡ false → b ≡ true
    true_from_not true is = refl
    true_from_not false is = sym is

pub named_rise : (symbols : List Symbol) (name : List ℕ) (entries named : List Entry) →
    IsSortedBy (name_less symbols) entries → named ≡ filter (is_named_at symbols name) entries →
    IsNonDecreasingBy (λ (entry : Entry). entry.address) named
named_rise symbols name entries named up is =
    let kept = filter (is_named_at symbols name) entries in
    let sorted = IsSortedBy-filter (name_less symbols) (entry_laws Names symbols)
    (is_named_at symbols name) entries up in
    let P : List Entry → Type 0 = IsNonDecreasingBy (λ (entry : Entry). entry.address) in
    subst P (sym is) (IsNonDecreasingBy-from_all_adjacent (λ (entry : Entry). entry.address) kept (λ k d less.
    let x = get_or kept k d in
    let y = get_or kept (k + 1) d in
    let same = same_names (name_of (slice_get symbols y.place)) (name_of (slice_get symbols x.place)) name
    (named_all symbols name entries (k + 1) d less) (named_all symbols name entries k d (omega arith)) in
    address_rises x.address y.address x.place y.place (sym (ap (λ o. is_lt (ordering_then o (address_order y x))) same)
    ∙ sorted k d (omega arith) less)))

-- ---- the addresses that a lookup finds
has_wanted : (n : ℕ) (wanted : Symbol → Bool) (symbols : List Symbol) →
    has n (map address_of (filter wanted symbols)) ≡ list_any (λ symbol. wanted symbol && eqb n symbol.address) symbols
has_wanted n wanted [] = refl
has_wanted n wanted (symbol ∷ rest) =
    elim (wanted symbol) as (λ b. has n (map address_of (cond b (symbol ∷ filter wanted rest) (filter wanted rest)))
    ≡ ((b && eqb n symbol.address) || list_any (λ s. wanted s && eqb n s.address) rest)) [
      | true ↦ ap (λ b. eqb n symbol.address || b) (has_wanted n wanted rest)
      | false ↦ has_wanted n wanted rest
    ]

gives : ℕ → Option ℕ → Bool
gives n None = false
gives n (Some m) = eqb n m

has-cons_option : (n : ℕ) (o : Option ℕ) (later : List ℕ) → has n (cons_option o later) ≡ (gives n o || has n later)
unfolding gives
has-cons_option n None later = refl
has-cons_option n (Some m) later = refl

has-kept : (n : ℕ) (h : Entry → Option ℕ) (entry : Entry) (rest : List Entry) (b : Bool) →
    has n (filter_map h (cond b (entry ∷ rest) rest)) ≡ ((b && gives n (h entry)) || has n (filter_map h rest))
has-kept n h entry rest true = has-cons_option n (h entry) (filter_map h rest)
has-kept n h entry rest false = refl

-- whether an entry gives an address of a kind and a name
gives_at : ℕ → Kind → List ℕ → List Symbol → Entry → Bool
gives_at n kind name symbols entry = is_named_at symbols name entry
    && gives n (kind_address kind (slice_get symbols entry.place))

has_found : (n : ℕ) (kind : Kind) (name : List ℕ) (symbols : List Symbol) (entries : List Entry) →
    has n (found_at symbols kind name entries) ≡ list_any (gives_at n kind name symbols) entries
unfolding gives_at
has_found n kind name symbols [] = refl
has_found n kind name symbols (entry ∷ rest) =
    has-kept n (λ one. kind_address kind (slice_get symbols one.place)) entry (filter (is_named_at symbols name) rest)
    (is_named_at symbols name entry)
    ∙ ap (λ b. gives_at n kind name symbols entry || b) (has_found n kind name symbols rest)

gives_one : (n : ℕ) (kind : Kind) (name : List ℕ) (symbols : List Symbol) (k : ℕ) (symbol : Symbol) →
    slice_get symbols k ≡ Some symbol →
    gives_at n kind name symbols (record { address = symbol.address; place = k })
    ≡ (is_listed kind name symbol && eqb n symbol.address)
unfolding gives_at gives
gives_one n kind name symbols k symbol is =
    ap (λ o. is_eq (order_of name o) && gives n (kind_address kind o)) is
    ∙ ap (λ b. b && gives n (kind_address kind (Some symbol))) (is_eq-slice_cmp symbol.name name)
    ∙ elim (is_of_kind kind symbol) as (λ b. (is_named name symbol && gives n (cond b (Some symbol.address) None))
    ≡ ((b && is_named name symbol) && eqb n symbol.address)) [
      | true ↦ refl
      | false ↦
          and_right (is_named name symbol) false refl
    ]

has_listed : (n : ℕ) (kind : Kind) (name : List ℕ) (symbols : List Symbol) (entries : List Entry) →
    HasAll Names symbols entries →
    has n (found_at symbols kind name entries) ≡ has n (map address_of (filter (is_listed kind name) symbols))
has_listed n kind name symbols entries all =
    has_found n kind name symbols entries
    ∙ any_entry Names symbols entries (gives_at n kind name symbols)
    (λ symbol. is_listed kind name symbol && eqb n symbol.address) all (gives_one n kind name symbols)
    ∙ sym (has_wanted n (is_listed kind name) symbols)

-- numbers in another order are the same, each once and ascending
pub found_by_name : (kind : Kind) (name : List ℕ) (symbols : List Symbol) (entries : List Entry) (moved : List ℕ) →
    HasAll Names symbols entries → IsPermutation (found_at symbols kind name entries) moved →
    ascending moved ≡ addresses_of (is_listed kind name) symbols
found_by_name kind name symbols entries moved all same =
    let wanted = map address_of (filter (is_listed kind name) symbols) in
    same_members (ascending moved) (ascending wanted) (ascends-ascending moved) (ascends-ascending wanted) (λ n.
    has-ascending n moved ∙ sym (list_any-IsPermutation (eqb n) (found_at symbols kind name entries) moved same)
    ∙ has_listed n kind name symbols entries all ∙ sym (has-ascending n wanted))

found_append : (symbols : List Symbol) (kind : Kind) (name : List ℕ) (entries rest : List Entry) →
    found_at symbols kind name (entries ++ rest) ≡ found_at symbols kind name entries ++ found_at symbols kind name rest
found_append symbols kind name entries rest =
    ap (filter_map (λ entry. kind_address kind (slice_get symbols entry.place)))
    (filter-append (is_named_at symbols name) entries rest)
    ∙ filter_map-append (λ entry. kind_address kind (slice_get symbols entry.place))
    (filter (is_named_at symbols name) entries) (filter (is_named_at symbols name) rest)

-- one block more is looked through
pub found_more : (symbols : List Symbol) (kind : Kind) (name : List ℕ) (entries : List Entry) (begin end : ℕ)
    (found block : List ℕ) →
    begin ≤ end → block ≡ found_at symbols kind name (between begin end entries) →
    IsPermutation (found_at symbols kind name (drop end entries)) found →
    IsPermutation (found_at symbols kind name (drop begin entries)) (found ++ block)
found_more symbols kind name entries begin end found block order is so_far =
    let here = between begin end entries in
    let rest = drop end entries in
    let P : List ℕ → Type 0 = λ ys. IsPermutation ys (found ++ block) in
    let Q : List ℕ → Type 0 = λ ys. IsPermutation (found_at symbols kind name here ++ found_at symbols kind name rest)
    (found ++ ys) in
    subst P (sym (ap (found_at symbols kind name) (drop_between entries begin end order)
    ∙ found_append symbols kind name here rest))
    (subst Q (sym is) (IsPermutation-trans _ _ _
    (IsPermutation-append_comm (found_at symbols kind name here) (found_at symbols kind name rest))
    (IsPermutation-append_left (found_at symbols kind name here) _ _ so_far)))

-- ---- a global symbol of a name at an address
any_filtered : (p test : Entry → Bool) (entries : List Entry) →
    list_any test (filter p entries) ≡ list_any (λ entry. p entry && test entry) entries
any_filtered p test [] = refl
any_filtered p test (entry ∷ rest) =
    elim (p entry) as (λ b. list_any test (cond b (entry ∷ filter p rest) (filter p rest))
    ≡ ((b && test entry) || list_any (λ one. p one && test one) rest)) [
      | true ↦ ap (λ b. test entry || b) (any_filtered p test rest)
      | false ↦ any_filtered p test rest
    ]

shuffled : (global named here : Bool) → (global && (named && here)) ≡ ((global && named) && here)
shuffled false named here = refl
shuffled true named here = refl

any_alike : (p q : Symbol → Bool) (symbols : List Symbol) → ((symbol : Symbol) → p symbol ≡ q symbol) →
    list_any p symbols ≡ list_any q symbols
any_alike p q [] same = refl
any_alike p q (symbol ∷ rest) same = ap (λ b. b || list_any p rest) (same symbol)
    ∙ ap (λ b. q symbol || b) (any_alike p q rest same)

entry_of_one : (symbols : List Symbol) (name : List ℕ) (address k : ℕ) (symbol : Symbol) →
    slice_get symbols k ≡ Some symbol →
    is_entry_of symbols name address (record { address = symbol.address; place = k })
    ≡ (is_named name symbol && eqb address symbol.address)
entry_of_one symbols name address k symbol is =
    ap (λ o. is_eq (order_of name o) && eqb address symbol.address) is
    ∙ ap (λ b. b && eqb address symbol.address) (is_eq-slice_cmp symbol.name name)

-- looking through blocks
pub found_here : (p : Entry → Bool) (entries : List Entry) (begin end : ℕ) → begin ≤ end →
    list_any p (between begin end entries) ≡ true → list_any p entries ≡ true
found_here p entries begin end order is =
    ap (list_any p) (sym (take-append-drop begin entries)) ∙ list_any-append p (take begin entries) (drop begin entries)
    ∙ ap (λ b. list_any p (take begin entries) || b) (ap (list_any p) (drop_between entries begin end order)
    ∙ list_any-append p (between begin end entries) (drop end entries)
    ∙ ap (λ b. b || list_any p (drop end entries)) is)
    ∙ or_right (list_any p (take begin entries)) true refl

pub none_here : (p : Entry → Bool) (entries : List Entry) (begin end : ℕ) → begin ≤ end →
    list_any p (between begin end entries) ≡ false → list_any p (drop end entries) ≡ false →
    list_any p (drop begin entries) ≡ false
none_here p entries begin end order here later =
    ap (list_any p) (drop_between entries begin end order)
    ∙ list_any-append p (between begin end entries) (drop end entries)
    ∙ ap (λ b. b || list_any p (drop end entries)) here ∙ later

-- a list of entries that pass a test has one
has_length : {X : Type 0} (p : X → Bool) (xs : List X) → list_any p xs ≡ ltb 0 (length (filter p xs))
has_length p [] = refl
has_length p (x ∷ xs) =
    elim (p x) as (λ b. (b || list_any p xs) ≡ ltb 0 (length (cond b (x ∷ filter p xs) (filter p xs)))) [
      | true ↦ sym (some_longer (length (filter p xs)))
      | false ↦ has_length p xs
    ]
  where
    some_longer : (n : ℕ) → ltb 0 (suc n) ≡ true
    some_longer n = grind (arith, nat_tests)

pub any_named : (symbols : List Symbol) (name : List ℕ) (address : ℕ) (entries : List Entry) →
    ltb 0 (length (filter (stands_at address) (filter (is_named_at symbols name) entries))) ≡ list_any
    (is_entry_of symbols name address) entries
any_named symbols name address entries =
    sym (has_length (stands_at address) (filter (is_named_at symbols name) entries))
    ∙ any_filtered (is_named_at symbols name) (stands_at address) entries

pub any_global : (symbols : List Symbol) (name : List ℕ) (address : ℕ) (entries : List Entry) →
    HasAll Globals symbols entries →
    list_any (is_entry_of symbols name address) entries ≡ list_any (eqb address) (global_addresses symbols name)
any_global symbols name address entries all =
    any_entry Globals symbols entries (is_entry_of symbols name address)
    (λ symbol. is_named name symbol && eqb address symbol.address) all (entry_of_one symbols name address)
    ∙ any_alike _ _ symbols (λ symbol. shuffled symbol.global (is_named name symbol) (eqb address symbol.address))
    ∙ sym (has_wanted address (is_global_named name) symbols)
    ∙ sym (has-ascending address (map address_of (filter (is_global_named name) symbols)))
