-- Laws of the indices: what they hold after one more symbol, and what a test of their entries says of the symbols.
use Rattle.std.proofs.Common.{◌≡◌, ℕ, suc, zero, ◌+◌, ◌-◌, ◌<◌, ◌≤◌, Bool, true, false, cond}
use Rattle.std.proofs.Common.{◌||◌, ◌&&◌, List, [], ◌∷◌, ◌++◌, length, get_or, take, refl}
use Rattle.std.proofs.Common.{sym, ◌∙◌, ap, subst, Option, Some, None, append_assoc, arith}
use Rattle.std.specs.Prelude.{Result, Ok, Err, IsOk, is_ok}
use Rattle.std.specs.Cmp.{IsStrictWeakOrder, on_total, back_total, then_total}
use Rattle.std.specs.Cmp.Lexicographic.{slice_cmp}
use Rattle.std.specs.List.{slice_get, list_any}
use Rattle.std.specs.List.Sorted.{IsSortedBy, IsPermutation}
use Rattle.std.specs.Ordering.{nat_cmp, ordering_then, is_lt}
use Rattle.std.proofs.lemmas.Bool.{false≢true, false_from_ne_true}
use Rattle.std.proofs.lemmas.Cmp.{nat_cmp_total, nat_list_cmp_total}
use Rattle.std.proofs.lemmas.List.{append-nil, length-append, length-take-le, take_more, take_all}
use Rattle.std.proofs.lemmas.List.Folds.{list_any-append, list_any_at}
use Rattle.std.proofs.lemmas.List.Sorted.{ranks_by, IsPermutation-refl, IsPermutation-trans}
use Rattle.std.proofs.lemmas.List.Sorted.{IsPermutation-append_left, list_any-IsPermutation}
use Rattle.symbol_table.specs.declared.symbols.Symbol.{Symbol}
use Rattle.symbol_table.specs.declared.entries.Entry.{Entry}
use Rattle.symbol_table.specs.declared.entries.Index.{Index}
use Rattle.symbol_table.specs.declared.entries.Index.TheVariants.{Functions, Data, Globals, Names}
use Rattle.symbol_table.specs.inside.Entries.{is_in, entry_at, entries_from, name_of}
use Rattle.symbol_table.specs.inside.Entries.{address_order, name_less, entry_less, HasAll}
use Rattle.symbol_table.specs.inside.Blocks.{InBlocks}
use Rattle.symbol_table.proofs.BlockLaws.{in_blocks_sorted, before_push}
use Rattle.symbol_table.proofs.FunctionLaws.{address_laws}

-- ---- the orders
name_laws : (symbols : List Symbol) → IsStrictWeakOrder (name_less symbols)
name_laws symbols =
    ranks_by (then_total (on_total (λ (entry : Entry). name_of (slice_get symbols entry.place)) nat_list_cmp_total)
    (then_total (on_total (λ (entry : Entry). entry.address) nat_cmp_total)
    (back_total (on_total (λ (entry : Entry). entry.place) nat_cmp_total)))) (λ (entry : Entry). entry)

pub entry_laws : (index : Index) (symbols : List Symbol) → IsStrictWeakOrder (entry_less index symbols)
entry_laws Functions symbols = address_laws
entry_laws Data symbols = address_laws
entry_laws Globals symbols = name_laws symbols
entry_laws Names symbols = name_laws symbols

-- ---- a test of all entries
or_false : (a b : Bool) → ((a || false) || b) ≡ (a || b)
or_false true b = refl
or_false false b = refl

any_from : (index : Index) (place : ℕ) (symbols : List Symbol) (p : Entry → Bool) (q : Symbol → Bool) →
    ((k : ℕ) (symbol : Symbol) → slice_get symbols k ≡ Some symbol
    → p (record { address = symbol.address; place = place + k }) ≡ q symbol) →
    list_any p (entries_from index place symbols) ≡ list_any (λ symbol. is_in index symbol && q symbol) symbols
any_from index place [] p q same = refl
any_from index place (first ∷ rest) p q same =
    let new : Entry = record { address = first.address; place = place } in
    let at : ℕ → Symbol → Entry = λ n symbol. record { address = symbol.address; place = n } in
    let none : place + 0 ≡ place = omega arith in
    let here : p new ≡ q first = ap (λ n. p (at n first)) (sym none) ∙ same 0 first refl in
    let later = any_from index (place + 1) rest p q (λ k symbol is. let e : place + 1 + k ≡ place + suc k =
    omega arith in ap (λ n. p (at n symbol)) e ∙ same (suc k) symbol is) in
    list_any-append p (entry_at index first place) (entries_from index (place + 1) rest)
    ∙ elim (is_in index first) as (λ b. (list_any p (cond b (new ∷ []) [])
    || list_any p (entries_from index (place + 1) rest))
    ≡ ((b && q first) || list_any (λ symbol. is_in index symbol && q symbol) rest)) [
      | true ↦ or_false (p new) _ ∙ ap (λ b. b || list_any p (entries_from index (place + 1) rest)) here
          ∙ ap (λ b. q first || b) later
      | false ↦ later
    ]

-- what a test of all entries says of the symbols
pub any_entry : (index : Index) (symbols : List Symbol) (entries : List Entry) (p : Entry → Bool) (q : Symbol → Bool) →
    HasAll index symbols entries →
    ((k : ℕ) (symbol : Symbol) → slice_get symbols k ≡ Some symbol
    → p (record { address = symbol.address; place = k }) ≡ q symbol) →
    list_any p entries ≡ list_any (λ symbol. is_in index symbol && q symbol) symbols
any_entry index symbols entries p q has same =
    let at : ℕ → Symbol → Entry = λ n symbol. record { address = symbol.address; place = n } in
    sym (list_any-IsPermutation p (entries_from index 0 symbols) entries has.all)
    ∙ any_from index 0 symbols p q (λ k symbol is. let e : 0 + k ≡ k = omega arith in
    ap (λ n. p (at n symbol)) e ∙ same k symbol is)

-- ---- one more symbol
pub slice_get-push : (symbols : List Symbol) (new symbol : Symbol) (k : ℕ) → slice_get symbols k ≡ Some symbol →
    slice_get (symbols ++ new ∷ []) k ≡ Some symbol
slice_get-push [] new symbol k is = absurd (cc)
slice_get-push (x ∷ rest) new symbol zero is = is
slice_get-push (x ∷ rest) new symbol (suc k) is = slice_get-push rest new symbol k is

is_missing : Option Symbol → Bool
is_missing None = true
is_missing (Some symbol) = false

stays : (symbols : List Symbol) (new : Symbol) (place : ℕ) (o : Option Symbol) → slice_get symbols place ≡ o →
    is_missing o ≡ false → slice_get (symbols ++ new ∷ []) place ≡ o
unfolding is_missing
stays symbols new place None is there = absurd (false≢true (sym there))
stays symbols new place (Some symbol) is there = slice_get-push symbols new symbol place is

none_of_any : (p : Symbol → Bool) (symbols : List Symbol) → list_any (λ symbol. p symbol && false) symbols ≡ false
none_of_any p [] = refl
none_of_any p (symbol ∷ rest) =
    elim (p symbol) as (λ b. ((b && false) || list_any (λ s. p s && false) rest) ≡ false) [
      | true ↦
          none_of_any p rest
      | false ↦ none_of_any p rest
    ]

-- an entry leads to the same symbol still
still : (index : Index) (symbols : List Symbol) (new : Symbol) (entries : List Entry) (k : ℕ) (d : Entry) →
    HasAll index symbols entries → k < length entries →
    slice_get (symbols ++ new ∷ []) (get_or entries k d).place ≡ slice_get symbols (get_or entries k d).place
unfolding is_missing
still index symbols new entries k d has less =
    let lost : Entry → Bool = λ entry. is_missing (slice_get symbols entry.place) in
    let none : list_any lost entries ≡ false = any_entry index symbols entries lost (λ symbol. false) has
    (λ j symbol is. ap is_missing is) ∙ none_of_any (is_in index) symbols in
    stays symbols new (get_or entries k d).place _ refl
    (false_from_ne_true (lost (get_or entries k d))
    (λ yes. false≢true (sym none ∙ list_any_at lost entries k d less yes)))

-- the blocks stay in order
names_later : (index : Index) (symbols : List Symbol) (new : Symbol) (entries : List Entry) →
    HasAll index symbols entries → InBlocks (name_less symbols) entries →
    InBlocks (name_less (symbols ++ new ∷ [])) entries
names_later index symbols new entries has blocks end within k d above below =
    let later = get_or entries (k + 1) d in
    let earlier = get_or entries k d in
    ap
    (λ o. is_lt (ordering_then (slice_cmp nat_cmp (name_of o) (name_of (slice_get (symbols ++ new ∷ []) earlier.place)))
    (address_order later earlier))) (still index symbols new entries (k + 1) d has (omega arith))
    ∙ ap (λ o. is_lt (ordering_then (slice_cmp nat_cmp (name_of (slice_get symbols later.place)) (name_of o))
    (address_order later earlier))) (still index symbols new entries k d has (omega arith))
    ∙ blocks end within k d above below

pub blocks_later : (index : Index) (symbols : List Symbol) (new : Symbol) (entries : List Entry) →
    HasAll index symbols entries → InBlocks (entry_less index (symbols ++ new ∷ [])) entries
blocks_later Functions symbols new entries has end within k d above below = has.blocks end within k d above below
blocks_later Data symbols new entries has end within k d above below = has.blocks end within k d above below
blocks_later Globals symbols new entries has end within k d above below =
    names_later Globals symbols new entries has has.blocks end within k d above below
blocks_later Names symbols new entries has end within k d above below =
    names_later Names symbols new entries has has.blocks end within k d above below

entries_from-push : (index : Index) (place : ℕ) (symbols : List Symbol) (new : Symbol) →
    entries_from index place (symbols ++ new ∷ []) ≡ entries_from index place symbols ++ entry_at index new
    (place + length symbols)
entries_from-push index place [] new =
    (let e : place ≡ place + 0 = omega arith in append-nil (entry_at index new place) ∙ ap (entry_at index new) e)
entries_from-push index place (first ∷ rest) new =
    let e : place + 1 + length rest ≡ place + suc (length rest) = omega arith in
    ap (λ es. entry_at index first place ++ es) (entries_from-push index (place + 1) rest new
    ∙ ap (λ n. entries_from index (place + 1) rest ++ entry_at index new n) e)
    ∙ sym (append_assoc (entry_at index first place) (entries_from index (place + 1) rest)
    (entry_at index new (place + suc (length rest))))

-- the symbols before the last one, and the last one
pub last_parts : (symbols : List Symbol) (place : ℕ) (last : Symbol) → place ≡ length symbols - 1 →
    0 < length symbols → last ≡ get_or symbols place last → symbols ≡ take place symbols ++ last ∷ []
last_parts symbols place last at some is =
    let e : place + 1 ≡ length symbols = omega arith in
    sym (take_all (length symbols) symbols (omega arith)) ∙ ap (λ n. take n symbols) (sym e)
    ∙ take_more symbols place last (omega arith) ∙ ap (λ x. take place symbols ++ x ∷ []) (sym is)

noted_front : (index : Index) (front : List Symbol) (last : Symbol) (place : ℕ) (entries pushed moved : List Entry) →
    place ≡ length front → HasAll index front entries → pushed ≡ entries ++ entry_at index last place →
    IsPermutation pushed moved → InBlocks (entry_less index (front ++ last ∷ [])) moved →
    HasAll index (front ++ last ∷ []) moved
noted_front index front last place entries pushed moved at has is same blocks =
    let e : 0 + length front ≡ place = omega arith in
    let P : List Entry → Type 0 = λ es. IsPermutation es moved in
    let parts : entries_from index 0 (front ++ last ∷ []) ≡ entries_from index 0 front ++ entry_at index last place =
    entries_from-push index 0 front last ∙ ap (λ n. entries_from index 0 front ++ entry_at index last n) e in
    record {
      blocks = blocks;
      all = subst P (sym parts)
          (IsPermutation-trans _ _ _ (IsPermutation-append_left (entry_at index last place) _ _ has.all)
          (subst P is same));
    }

-- a symbol's entry is noted
pub noted : (index : Index) (symbols : List Symbol) (last : Symbol) (place : ℕ) (entries pushed moved : List Entry) →
    symbols ≡ take place symbols ++ last ∷ [] → place ≡ length (take place symbols) →
    HasAll index (take place symbols) entries → pushed ≡ entries ++ entry_at index last place →
    IsPermutation pushed moved → InBlocks (entry_less index symbols) moved → HasAll index symbols moved
noted index symbols last place entries pushed moved parts at has is same blocks =
    let P : List Symbol → Type 0 = λ xs. HasAll index xs moved in
    let Q : List Symbol → Type 0 = λ xs. InBlocks (entry_less index xs) moved in
    subst P (sym parts) (noted_front index (take place symbols) last place entries pushed moved at has is same
    (subst Q parts blocks))

pub blocks_still : (index : Index) (symbols : List Symbol) (last : Symbol) (place : ℕ) (entries : List Entry) →
    symbols ≡ take place symbols ++ last ∷ [] → HasAll index (take place symbols) entries →
    InBlocks (entry_less index symbols) entries
blocks_still index symbols last place entries parts has =
    let Q : List Symbol → Type 0 = λ xs. InBlocks (entry_less index xs) entries in
    subst Q (sym parts) (blocks_later index (take place symbols) last entries has)

-- what a push leaves is in blocks but for an entry at the end
pub pushed_blocks : (less : Entry → Entry → Bool) (index : Index) (last : Symbol) (place : ℕ)
    (entries pushed : List Entry) →
    pushed ≡ entries ++ entry_at index last place → length entries < length pushed → InBlocks less entries →
    InBlocks less (take (length pushed - 1) pushed)
pushed_blocks less index last place entries pushed is more blocks =
    let new : Entry = record { address = last.address; place = place } in
    let P : List Entry → Type 0 = λ es. InBlocks less (take (length es - 1) es) in
    let Q : List Entry → Type 0 = λ es. length entries < length es in
    subst P (sym is) (elim (is_in index last) as (λ b. length entries < length (entries ++ cond b (new ∷ []) [])
    → InBlocks less (take (length (entries ++ cond b (new ∷ []) []) - 1) (entries ++ cond b (new ∷ []) []))) [
      | true ↦ λ _. before_push less entries new blocks
      | false ↦ λ grows. absurd (omega (arith, length-append entries []))
    ] (subst Q is more))

pub unpushed_blocks : (less : Entry → Entry → Bool) (index : Index) (last : Symbol) (place : ℕ)
    (entries pushed : List Entry) →
    pushed ≡ entries ++ entry_at index last place → length pushed ≤ length entries → InBlocks less entries →
    InBlocks less pushed
unpushed_blocks less index last place entries pushed is more blocks =
    let new : Entry = record { address = last.address; place = place } in
    let P : List Entry → Type 0 = InBlocks less in
    let Q : List Entry → Type 0 = λ es. length es ≤ length entries in
    subst P (sym is) (elim (is_in index last) as (λ b. length (entries ++ cond b (new ∷ []) []) ≤ length entries
    → InBlocks less (entries ++ cond b (new ∷ []) [])) [
      | true ↦ λ shrinks. absurd (omega (arith, length-append entries (new ∷ [])))
      | false ↦ λ _. subst P (sym (append-nil entries)) blocks
    ] (subst Q is more))

-- ---- all symbols
pub listed_more : (index : Index) (symbols : List Symbol) (symbol : Symbol) (place : ℕ) (entries more : List Entry) →
    place < length symbols → symbol ≡ get_or symbols place symbol → more ≡ entries ++ entry_at index symbol place →
    entries ≡ entries_from index 0 (take place symbols) → more ≡ entries_from index 0 (take (place + 1) symbols)
listed_more index symbols symbol place entries more less is_at is all =
    let front = take place symbols in
    let e : place ≡ 0 + length front = omega (arith, length-take-le place symbols (omega arith)) in
    let parts : take (place + 1) symbols ≡ front ++ symbol ∷ [] =
    take_more symbols place symbol less ∙ ap (λ x. front ++ x ∷ []) (sym is_at) in
    is ∙ ap (λ es. es ++ entry_at index symbol place) all
    ∙ ap (λ n. entries_from index 0 front ++ entry_at index symbol n) e ∙ sym (entries_from-push index 0 front symbol)
    ∙ ap (entries_from index 0) (sym parts)

pub all_sorted : (index : Index) (symbols : List Symbol) (held entries sorted : List Entry) → held ≡ entries →
    entries ≡ entries_from index 0 symbols → IsPermutation held sorted →
    IsSortedBy (entry_less index symbols) sorted → HasAll index symbols sorted
all_sorted index symbols held entries sorted is all same up =
    let P : List Entry → Type 0 = λ es. IsPermutation es sorted in
    record { blocks = in_blocks_sorted (entry_less index symbols) sorted up; all = subst P (is ∙ all) same }

-- no symbols and no entries
pub all_of_none : (index : Index) → HasAll index [] []
all_of_none index = record { blocks = λ end within k d above below. absurd (omega arith); all = IsPermutation-refl [] }

-- what a call leaves that succeeds
pub when_ok : {T E X : Type 0} (r : Result T E) (held kept left : X) → left ≡ cond (is_ok r) held kept → IsOk r →
    left ≡ held
when_ok (Ok v) held kept left is ok = is
when_ok (Err e) held kept left is ok = absurd (false≢true ok)
