-- Laws of the entries of functions, kept by address.
use Rattle.std.proofs.Common.{◌≡◌, ℕ, suc, zero, ◌+◌, ◌<◌, ◌≤◌, Bool, true, false, cond, ◌&&◌}
use Rattle.std.proofs.Common.{◌||◌, eqb, ltb, leb, List, [], ◌∷◌, ◌++◌, length, get_or, drop, refl}
use Rattle.std.proofs.Common.{sym, ◌∙◌, ap, ap₂, subst, Option, Some, None, inl, inr, arith}
use Rattle.std.specs.Prelude.{IfSome}
use Rattle.std.specs.Option.{option_copied}
use Rattle.std.specs.Borrow.{Bor}
use Rattle.std.specs.Slice.{IsGetResult}
use Rattle.std.specs.Cmp.{IsStrictWeakOrder}
use Rattle.std.specs.List.{slice_get, between, list_any}
use Rattle.std.specs.List.Sorted.{IsNonDecreasingBy, IsSortedBy, IsPermutation}
use Rattle.std.proofs.lemmas.Bool.{or_from, or_parts, lt-ltb, le-ltb, leb-true, le-leb}
use Rattle.std.proofs.lemmas.Bool.{lt-leb, cond-true, cond-false, false≢true, cases_lt}
use Rattle.std.proofs.lemmas.Bool.Decides.{nat_tests}
use Rattle.std.proofs.lemmas.List.Sorted.{sorted_far, IsNonDecreasingBy-from_all_adjacent, list_any-IsPermutation}
use Rattle.std.proofs.lemmas.Option.{slice_get-get_or, slice_get_past}
use Rattle.symbol_table.specs.declared.symbols.Symbol.{Symbol}
use Rattle.symbol_table.specs.declared.entries.Entry.{Entry}
use Rattle.symbol_table.specs.Symbols.{nearer, function_below}
use Rattle.symbol_table.specs.declared.entries.Index.TheVariants.{Functions}
use Rattle.symbol_table.specs.inside.Entries.{address_less, entries_from, HasAll}
use Rattle.symbol_table.specs.inside.Functions.{greater_entry, entry_below, Marks}
use Rattle.symbol_table.proofs.BlockLaws.{drop_between}

-- ---- the order of entries
less_by : (a b p q : ℕ) → Bool
less_by a b p q = ltb a b || (eqb a b && ltb q p)

less_by_one_way : (a b p q : ℕ) → less_by a b p q ≡ true → less_by b a q p ≡ false
unfolding less_by
less_by_one_way a b p q is = grind (arith, nat_tests)

less_by_chain : (a b c p q r : ℕ) → less_by a b p q ≡ false → less_by b c q r ≡ false → less_by a c p r ≡ false
unfolding less_by
less_by_chain a b c p q r one two = grind (arith, nat_tests)

less_by_address : (a b p q : ℕ) → less_by b a q p ≡ false → a ≤ b
unfolding less_by
less_by_address a b p q is = grind (arith, nat_tests)

less_by_address_same : (a b p q : ℕ) → less_by a b p q ≡ false → less_by b a q p ≡ false → a ≡ b
unfolding less_by
less_by_address_same a b p q one two = grind (arith, nat_tests)

less_by_place_same : (a b p q : ℕ) → less_by a b p q ≡ false → less_by b a q p ≡ false → p ≡ q
unfolding less_by
less_by_place_same a b p q one two = grind (arith, nat_tests)

less_by_later : (a b p q : ℕ) → q < p → less_by a b p q ≡ leb a b
unfolding less_by
less_by_later a b p q later = grind (arith, nat_tests)

pub address_laws : IsStrictWeakOrder address_less
unfolding less_by
address_laws = record {
  one_way = λ x y. less_by_one_way x.address y.address x.place y.place;
  chain = λ x y z. less_by_chain x.address y.address z.address x.place y.place z.place;
}

equal_entries : (x y : Entry) → address_less x y ≡ false → address_less y x ≡ false → x ≡ y
unfolding less_by
equal_entries x y one two =
    let make : ℕ → ℕ → Entry = λ a p. record { address = a; place = p } in
    ap₂ make (less_by_address_same x.address y.address x.place y.place one two)
    (less_by_place_same x.address y.address x.place y.place one two)

not_self : (x : Entry) → address_less x x ≡ false
not_self x = grind (arith, nat_tests)

pub entries_rise : (entries : List Entry) → IsSortedBy address_less entries →
    IsNonDecreasingBy (λ (entry : Entry). entry.address) entries
unfolding less_by
entries_rise entries up =
    IsNonDecreasingBy-from_all_adjacent (λ (entry : Entry). entry.address) entries
    (λ k d less. less_by_address (get_or entries k d).address (get_or entries (k + 1) d).address
    (get_or entries k d).place (get_or entries (k + 1) d).place (up k d (omega arith) less))

-- ---- the greater of two entries
greater_none : (o : Option Entry) → greater_entry o None ≡ o
greater_none None = refl
greater_none (Some entry) = refl

greater_of_greater : (x y z : Entry) →
    greater_entry (greater_entry (Some x) (Some y)) (Some z) ≡ greater_entry (Some x) (greater_entry (Some y) (Some z))
greater_of_greater x y z =
    elim (address_less y x) as (λ b. address_less y x ≡ b
    → greater_entry (cond b (Some x) (Some y)) (Some z) ≡ greater_entry (Some x)
    (cond (address_less z y) (Some y) (Some z))) [
      | true ↦ λ yx. elim (address_less z y) as (λ b. address_less z y ≡ b
          → cond (address_less z x) (Some x) (Some z) ≡ greater_entry (Some x) (cond b (Some y) (Some z))) [
            | true ↦ λ zy.
                let zx : address_less z x ≡ true =
                elim (address_less z x) as (λ b. address_less z x ≡ b → b ≡ true) [
                  | true ↦ λ _. refl
                  | false ↦ λ zx. absurd (false≢true (sym (address_laws.chain z x y zx (address_laws.one_way y x yx))
                      ∙ zy))
                ] refl in
                cond-true _ _ _ zx ∙ sym (cond-true _ _ _ yx)
            | false ↦ λ _. refl
          ] refl
      | false ↦ λ yx. elim (address_less z y) as (λ b. address_less z y ≡ b
          → cond b (Some y) (Some z) ≡ greater_entry (Some x) (cond b (Some y) (Some z))) [
            | true ↦ λ _. sym (cond-false _ _ _ yx)
            | false ↦ λ zy. sym (cond-false _ _ _ (address_laws.chain z y x zy yx))
          ] refl
    ] refl

greater_joined : (a b c : Option Entry) → greater_entry (greater_entry a b) c ≡ greater_entry a (greater_entry b c)
greater_joined None b c = refl
greater_joined (Some x) None c = refl
greater_joined (Some x) (Some y) None = greater_none (greater_entry (Some x) (Some y))
greater_joined (Some x) (Some y) (Some z) = greater_of_greater x y z

-- ---- the entry below an address, of several lists
entry_below_append : (address : ℕ) (entries rest : List Entry) →
    entry_below address (entries ++ rest) ≡ greater_entry (entry_below address entries) (entry_below address rest)
entry_below_append address [] rest = refl
entry_below_append address (entry ∷ entries) rest =
    elim (leb entry.address address) as (λ b. cond b
    (greater_entry (Some entry) (entry_below address (entries ++ rest)))
    (entry_below address (entries ++ rest)) ≡ greater_entry
    (cond b (greater_entry (Some entry) (entry_below address entries)) (entry_below address entries))
    (entry_below address rest)) [
      | true ↦ ap (greater_entry (Some entry)) (entry_below_append address entries rest)
          ∙ sym (greater_joined (Some entry) (entry_below address entries) (entry_below address rest))
      | false ↦ entry_below_append address entries rest
    ]

-- one block more is looked through
pub last_more : (address : ℕ) (entries : List Entry) (begin end : ℕ) → begin ≤ end →
    greater_entry (entry_below address (between begin end entries))
    (entry_below address (drop end entries)) ≡ entry_below address (drop begin entries)
last_more address entries begin end order =
    sym (ap (entry_below address) (drop_between entries begin end order)
    ∙ entry_below_append address (between begin end entries) (drop end entries))

greater_keeps : (P : Entry → Type 0) (entry : Entry) (o : Option Entry) → P entry → IfSome o P →
    IfSome (greater_entry (Some entry) o) P
greater_keeps P entry None one rest = one
greater_keeps P entry (Some other) one rest =
    elim (address_less other entry) as (λ b. IfSome (cond b (Some entry) (Some other)) P) [ true ↦ one | false ↦ rest ]

pub below_reaches : (address : ℕ) (entries : List Entry) →
    IfSome (entry_below address entries) (λ entry. entry.address ≤ address)
below_reaches address [] = tt
below_reaches address (entry ∷ rest) =
    elim (leb entry.address address) as (λ b. leb entry.address address ≡ b
    → IfSome (cond b (greater_entry (Some entry) (entry_below address rest)) (entry_below address rest))
    (λ (entry : Entry). entry.address ≤ address)) [
      | true ↦ λ low. greater_keeps (λ (entry : Entry). entry.address ≤ address) entry (entry_below address rest)
          (leb-true _ _ low) (below_reaches address rest)
      | false ↦ λ _. below_reaches address rest
    ] refl

-- ---- what a search by halving finds
pub below_none : (address : ℕ) (entries : List Entry) →
    ((k : ℕ) (d : Entry) → k < length entries → leb (get_or entries k d).address address ≡ false) →
    entry_below address entries ≡ None
below_none address [] high = refl
below_none address (entry ∷ rest) high = cond-false _ _ _ (high 0 entry (omega arith))
    ∙ below_none address rest (λ k d l. high (suc k) d (omega arith))

greater_at : (entry : Entry) (rest : List Entry) (k : ℕ) → k < length rest →
    address_less (get_or rest k entry) entry ≡ false →
    greater_entry (Some entry) (slice_get rest k) ≡ slice_get rest k
greater_at entry rest k less far =
    let e = slice_get-get_or rest k entry less in
    ap (greater_entry (Some entry)) e ∙ cond-false _ _ _ far ∙ sym e

below_at : (address : ℕ) (entries : List Entry) (k : ℕ) → k < length entries →
    ((j : ℕ) (d : Entry) → j < k → address_less (get_or entries k d) (get_or entries j d) ≡ false) →
    ((j : ℕ) (d : Entry) → j < k + 1 → leb (get_or entries j d).address address ≡ true) →
    ((j : ℕ) (d : Entry) → k + 1 ≤ j → j < length entries → leb (get_or entries j d).address address ≡ false) →
    entry_below address entries ≡ slice_get entries k
below_at address [] k less far low high = absurd (omega arith)
below_at address (entry ∷ rest) zero less far low high =
    cond-true _ _ _ (low 0 entry (omega arith)) ∙ ap (greater_entry (Some entry))
    (below_none address rest (λ j d l. high (suc j) d (omega arith) (omega arith)))
below_at address (entry ∷ rest) (suc k) less far low high =
    cond-true _ _ _ (low 0 entry (omega arith))
    ∙ ap (greater_entry (Some entry))
    (below_at address rest k (omega arith) (λ j d l. far (suc j) d (omega arith)) (λ j d l. low (suc j) d (omega arith))
    (λ j d g l. high (suc j) d (omega arith) (omega arith)))
    ∙ greater_at entry rest k (omega arith) (far 0 entry (omega arith))

pub below_some : (address : ℕ) (entries : List Entry) (k : ℕ) → IsSortedBy address_less entries → k < length entries →
    ((j : ℕ) (d : Entry) → j < k + 1 → leb (get_or entries j d).address address ≡ true) →
    ((j : ℕ) (d : Entry) → k + 1 ≤ j → j < length entries → leb (get_or entries j d).address address ≡ false) →
    entry_below address entries ≡ slice_get entries k
below_some address entries k up less low high = below_at address entries k less
    (λ j d l. sorted_far address_less address_laws entries up j k d (omega arith) less) low high

-- ---- the entry below an address rests on which entries there are, not on their order
passing : (Entry → Bool) → Option Entry → Bool
passing p None = false
passing p (Some entry) = p entry

any_below : ℕ → (Entry → Bool) → List Entry → Bool
any_below address p entries = list_any (λ entry. leb entry.address address && p entry) entries

greater_passes_none : (p : Entry → Bool) (entry : Entry) (o : Option Entry) → p entry ≡ false → passing p o ≡ false →
    passing p (greater_entry (Some entry) o) ≡ false
unfolding passing
greater_passes_none p entry None one rest = one
greater_passes_none p entry (Some other) one rest =
    elim (address_less other entry) as (λ b. passing p (cond b (Some entry) (Some other)) ≡ false) [
      | true ↦
          one
      | false ↦ rest
    ]

chosen_passes_none : (address : ℕ) (p : Entry → Bool) (entries : List Entry) → any_below address p entries ≡ false →
    passing p (entry_below address entries) ≡ false
unfolding passing any_below
chosen_passes_none address p [] none = refl
chosen_passes_none address p (entry ∷ rest) none =
    elim (leb entry.address address) as (λ b. ((b && p entry) || any_below address p rest) ≡ false
    → passing p (cond b (greater_entry (Some entry) (entry_below address rest)) (entry_below address rest)) ≡ false) [
      | true ↦ λ none. greater_passes_none p entry (entry_below address rest) (or_parts _ _ none).0
          (chosen_passes_none address p rest (or_parts _ _ none).1)
      | false ↦ λ none. chosen_passes_none address p rest none
    ] none

-- a test that both entries fail if the greater one does
Falls : (Entry → Bool) → Type 0
Falls p = (entry : Entry) (o : Option Entry) → passing p (greater_entry (Some entry) o) ≡ false → (p entry ≡ false)
    × (passing p o ≡ false)

none_passes_chosen : (address : ℕ) (p : Entry → Bool) (entries : List Entry) → Falls p →
    passing p (entry_below address entries) ≡ false → any_below address p entries ≡ false
unfolding passing any_below Falls
none_passes_chosen address p [] falls none = refl
none_passes_chosen address p (entry ∷ rest) falls none =
    elim (leb entry.address address) as (λ b. passing p
    (cond b (greater_entry (Some entry) (entry_below address rest)) (entry_below address rest)) ≡ false
    → ((b && p entry) || any_below address p rest) ≡ false) [
      | true ↦ λ none. let both = falls entry (entry_below address rest) none in
          or_from _ _ both.0 (none_passes_chosen address p rest falls both.1)
      | false ↦ λ none. none_passes_chosen address p rest falls none
    ] none

any_entry : Entry → Bool
any_entry entry = true

falls_any : Falls any_entry
unfolding passing Falls any_entry
falls_any entry None none = (none, refl)
falls_any entry (Some other) none =
    absurd
    (false≢true (sym none ∙ elim (address_less other entry) as (λ b. passing any_entry
    (cond b (Some entry) (Some other)) ≡ true) [ true ↦ refl | false ↦ refl ]))

falls_less : (y : Entry) → Falls (address_less y)
unfolding passing Falls
falls_less y entry None none = (none, refl)
falls_less y entry (Some other) none =
    elim (address_less other entry) as (λ b. address_less other entry ≡ b
    → passing (address_less y) (cond b (Some entry) (Some other)) ≡ false → (address_less y entry ≡ false)
    × (address_less y other ≡ false)) [
      | true ↦ λ is none. (none, address_laws.chain y entry other none (address_laws.one_way other entry is))
      | false ↦ λ is none. (address_laws.chain y other entry none is, none)
    ] refl none

Alike : List Entry → List Entry → Type 0
Alike xs ys = (p : Entry → Bool) → list_any p xs ≡ list_any p ys

not_less : (address : ℕ) (xs ys : List Entry) (x y : Entry) → Alike xs ys → entry_below address xs ≡ Some x →
    entry_below address ys ≡ Some y → address_less y x ≡ false
unfolding passing any_below Alike
not_less address xs ys x y alike is_x is_y =
    let in_ys = none_passes_chosen address (address_less y) ys (falls_less y)
    (ap (passing (address_less y)) is_y ∙ not_self y) in
    sym (ap (passing (address_less y)) is_x) ∙ chosen_passes_none address (address_less y) xs
    (alike (λ entry. leb entry.address address && address_less y entry) ∙ in_ys)

none_there : (address : ℕ) (xs ys : List Entry) (x : Entry) → Alike xs ys → entry_below address xs ≡ Some x →
    entry_below address ys ≡ None → ⊥
unfolding passing any_below Alike any_entry
none_there address xs ys x alike is_x is_y =
    let in_ys = none_passes_chosen address any_entry ys falls_any (ap (passing any_entry) is_y) in
    false≢true (sym (sym (ap (passing any_entry) is_x) ∙ chosen_passes_none address any_entry xs
    (alike (λ entry. leb entry.address address && true) ∙ in_ys)))

same_below : (address : ℕ) (xs ys : List Entry) (a b : Option Entry) → Alike xs ys → Alike ys xs →
    entry_below address xs ≡ a → entry_below address ys ≡ b → a ≡ b
same_below address xs ys None None alike back is_a is_b = refl
same_below address xs ys (Some x) None alike back is_a is_b = absurd (none_there address xs ys x alike is_a is_b)
same_below address xs ys None (Some y) alike back is_a is_b = absurd (none_there address ys xs y back is_b is_a)
same_below address xs ys (Some x) (Some y) alike back is_a is_b =
    ap Some (equal_entries x y (not_less address ys xs y x back is_b is_a) (not_less address xs ys x y alike is_a is_b))

entry_below_moved : (address : ℕ) (xs ys : List Entry) → IsPermutation xs ys →
    entry_below address xs ≡ entry_below address ys
unfolding Alike
entry_below_moved address xs ys moved = same_below address xs ys (entry_below address xs) (entry_below address ys)
    (λ p. list_any-IsPermutation p xs ys moved) (λ p. sym (list_any-IsPermutation p xs ys moved)) refl refl

-- ---- the entries of the functions have the function below each address
cond_turned : {X : Type 0} (a b : ℕ) (x y : X) → cond (leb a b) x y ≡ cond (ltb b a) y x
cond_turned a b x y =
    elim (cases_lt b a) as (λ _. cond (leb a b) x y ≡ cond (ltb b a) y x) [
      | inl less ↦ cond-false _ _ _ (lt-leb a b less) ∙ sym (cond-true _ _ _ (lt-ltb b a less))
      | inr le ↦ cond-true _ _ _ (le-leb a b le) ∙ sym (cond-false _ _ _ (le-ltb b a le))
    ]

-- an entry is that of a symbol, at a place or later
MarksFrom : List Symbol → ℕ → Option Entry → Option Symbol → Type 0
MarksFrom all place o symbol = Marks all o symbol × IfSome o (λ entry. place ≤ entry.place)

marks_earlier : (all : List Symbol) (place : ℕ) (o : Option Entry) (symbol : Option Symbol) →
    MarksFrom all (place + 1) o symbol → MarksFrom all place o symbol
unfolding MarksFrom
marks_earlier all place None symbol marks = marks
marks_earlier all place (Some entry) symbol marks = (marks.0, omega (arith, marks.1))

marks_greater : (all : List Symbol) (place : ℕ) (first : Symbol) (o : Option Entry) (symbol : Option Symbol) →
    slice_get all place ≡ Some first → MarksFrom all (place + 1) o symbol →
    MarksFrom all place (greater_entry (Some (record { address = first.address; place = place })) o)
    (nearer first symbol)
unfolding MarksFrom less_by
marks_greater all place first None None here marks = ((here, refl), omega arith)
marks_greater all place first None (Some symbol) here marks = absurd marks.0
marks_greater all place first (Some entry) None here marks = absurd marks.0
marks_greater all place first (Some entry) (Some symbol) here marks =
    let new : Entry = record { address = first.address; place = place } in
    let turned : cond (address_less entry new) (Some new) (Some entry) ≡ cond (ltb first.address symbol.address)
    (Some entry) (Some new) =
    ap (λ b. cond b (Some new) (Some entry))
    (less_by_later entry.address first.address entry.place place (omega (arith, marks.1)))
    ∙ cond_turned entry.address first.address (Some new) (Some entry)
    ∙ ap (λ n. cond (ltb first.address n) (Some entry) (Some new)) marks.0.1 in
    let P : Option Entry → Type 0 = λ one. MarksFrom all place one (nearer first (Some symbol)) in
    subst P (sym turned) (elim (ltb first.address symbol.address) as (λ b. MarksFrom all place
    (cond b (Some entry) (Some new)) (cond b (Some symbol) (Some first))) [
      | true ↦ (marks.0, omega (arith, marks.1))
      | false ↦ ((here, refl), omega arith)
    ])

marked_from : (all : List Symbol) (place : ℕ) (symbols : List Symbol) (address : ℕ) →
    ((k : ℕ) (symbol : Symbol) → slice_get symbols k ≡ Some symbol → slice_get all (place + k) ≡ Some symbol) →
    MarksFrom all place (entry_below address (entries_from Functions place symbols)) (function_below symbols address)
unfolding function_below MarksFrom
marked_from all place [] address here = (tt, tt)
marked_from all place (first ∷ rest) address here =
    let later = marked_from all (place + 1) rest address
    (λ k symbol is. let e : place + 1 + k ≡ place + suc k = omega arith in
    ap (slice_get all) e ∙ here (suc k) symbol is) in
    let new : Entry = record { address = first.address; place = place } in
    let more = entries_from Functions (place + 1) rest in
    let e : place + 0 ≡ place = omega arith in
    elim first.function as (λ f. MarksFrom all place (entry_below address (cond f (new ∷ []) [] ++ more))
    (cond (f && leb first.address address) (nearer first (function_below rest address))
    (function_below rest address))) [
      | true ↦ elim (leb first.address address) as (λ b. MarksFrom all place
          (cond b (greater_entry (Some new) (entry_below address more)) (entry_below address more))
          (cond b (nearer first (function_below rest address)) (function_below rest address))) [
            | true ↦ marks_greater all place first (entry_below address more) (function_below rest address)
                (ap (slice_get all) (sym e) ∙ here 0 first refl) later
            | false ↦ marks_earlier all place (entry_below address more) (function_below rest address) later
          ]
      | false ↦ marks_earlier all place (entry_below address more) (function_below rest address) later
    ]

pub marked : (symbols : List Symbol) (entries : List Entry) (address : ℕ) → HasAll Functions symbols entries →
    Marks symbols (entry_below address entries) (function_below symbols address)
unfolding MarksFrom
marked symbols entries address has =
    let P : Option Entry → Type 0 = λ o. Marks symbols o (function_below symbols address) in
    subst P (entry_below_moved address (entries_from Functions 0 symbols) entries has.all)
    (marked_from symbols 0 symbols address (λ k symbol is. let e : 0 + k ≡ k = omega arith in
    ap (slice_get symbols) e ∙ is)).0

-- ---- what a lookup answers
pub marked_symbol : (symbols : List Symbol) (entry : Entry) (o : Option Symbol) → Marks symbols (Some entry) o →
    slice_get symbols entry.place ≡ o
marked_symbol symbols entry None marks = absurd marks
marked_symbol symbols entry (Some symbol) marks = marks.0

pub marked_none : (symbols : List Symbol) (o : Option Symbol) → Marks symbols None o → None ≡ o
marked_none symbols None marks = refl
marked_none symbols (Some symbol) marks = absurd marks

pub marked_low : (symbols : List Symbol) (address : ℕ) (entry : Entry) (o : Option Symbol) →
    Marks symbols (Some entry) o → entry.address ≤ address → IfSome o (λ symbol. symbol.address ≤ address)
marked_low symbols address entry None marks low = tt
marked_low symbols address entry (Some symbol) marks low = omega (arith, marks.1)

-- what `get` lends is the symbol at the place
pub seen_at : (symbols : List Symbol) (place : ℕ) (r : Option (Bor Symbol)) → IsGetResult symbols place place r →
    option_copied r ≡ slice_get symbols place
seen_at symbols place None got = sym (slice_get_past symbols place got.3)
seen_at symbols place (Some symbol) got = ap Some got.1 ∙ sym (slice_get-get_or symbols place symbol.now got.3.0)

pub seen_low : (address : ℕ) (r : Option (Bor Symbol)) (o : Option Symbol) → option_copied r ≡ o →
    IfSome o (λ symbol. symbol.address ≤ address) → IfSome r (λ symbol. symbol.now.address ≤ address)
seen_low address None o is low = tt
seen_low address (Some symbol) o is low =
    (let P : Option Symbol → Type 0 = λ one. IfSome one (λ s. s.address ≤ address) in subst P (sym is) low)
