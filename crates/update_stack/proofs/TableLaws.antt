-- The table of the machine: what comes of it when functions are replaced, and when that is taken back.
use Rattle.std.proofs.Common.{◌≡◌, ◌≢◌, ℕ, suc, ◌-◌, ◌<◌, ◌==◌, ◌||◌, Bool, true, false, cond, nat_eq, if◌then◌else◌}
use Rattle.std.proofs.Common.{List, [], ◌∷◌, ◌++◌, map, length, take, None, unwrap_or, refl, sym, ◌∙◌, ap, arith}
use Rattle.std.proofs.Common.{subst, ne_eqb}
use Rattle.std.proofs.Common.{length-append, Option}
use Rattle.std.specs.List.{All, Any, AllPairs, fold}
use Rattle.std.proofs.Math.Seq.{take-append_seam}
use Rattle.std.proofs.lemmas.List.{length-map, get_or-map}
use Rattle.std.proofs.lemmas.List.Elements.{All-head, All-tail, All-cons, All-map}
use Rattle.std.proofs.lemmas.List.Kept.{AllPairs-cons}
use Rattle.std.proofs.lemmas.List.Folds.{Any-from_list_any}
use Rattle.std.proofs.lemmas.Bool.Decides.{nat_tests}
use Rattle.ks_base.specs.declared.reports.Replaced.{Replaced}
use Rattle.image_memory.specs.declared.types.Piece.{Piece}
use Rattle.image_memory.specs.Contents.{Contents, IsValid}
use Rattle.symbol_table.specs.Bodies.{newest}
use Rattle.splice_jump.specs.Jump.{with_jump}
use Rattle.splice_jump.specs.Jumps.{jumped, row_with, with_base, IsSpliced, AreSpliced}
use Rattle.update_stack.specs.AbstractMachine.{Row, is_home, newest_in, bodies_in, with_replaced, jump_row, jump_rows}
use Rattle.update_stack.specs.Undo.{without_last, shorter, without_base}
use Rattle.update_stack.specs.laws.StackedLaws.{last_more}
use Rattle.update_stack.specs.laws.TableLaws.{all_read, equal, more_of, homes_spliced}

-- no home has two rows, and each row has a base
pub record IsTable (table : List Row) : Type 0 where
  pub homes : AllPairs (λ (a b : Row). a.home ≢ b.home) table
  pub based : All (λ (row : Row). 0 < length row.bases) table

pub first_table : IsTable []
first_table = record {
  homes = λ i j d less within. absurd (omega arith);
  based = λ k d l. absurd (omega arith);
}

-- pairs of the items of a list with a first one, and of what is read off items
pairs_head : {X : Type 0} (R : X → X → Type 0) (x : X) (xs : List X) → AllPairs R (x ∷ xs) → All (R x) xs
pairs_head R x xs pairs k d l = pairs 0 (suc k) d (omega arith) (omega arith)

pairs_tail : {X : Type 0} (R : X → X → Type 0) (x : X) (xs : List X) → AllPairs R (x ∷ xs) → AllPairs R xs
pairs_tail R x xs pairs i j d less within = pairs (suc i) (suc j) d (omega arith) (omega arith)

pub pairs_map : {X Y : Type 0} (f : X → Y) (R : Y → Y → Type 0) (xs : List X) → AllPairs (λ a b. R (f a) (f b)) xs
    → AllPairs R (map f xs)
pairs_map f R [] pairs i j d less within = absurd (omega arith)
pairs_map f R (x ∷ xs) pairs i j d less within =
    let short : j < length (x ∷ xs) = rw (sym (length-map (x ∷ xs) f)) within in
    rw (get_or-map f (x ∷ xs) i x d (omega arith), get_or-map f (x ∷ xs) j x d short) (pairs i j x less short)

pub pairs_read : {X Y : Type 0} (f : X → Y) (R : Y → Y → Type 0) (xs : List X) → AllPairs R (map f xs)
    → AllPairs (λ a b. R (f a) (f b)) xs
pairs_read f R xs pairs i j d less within =
    let long : j < length (map f xs) = rw (length-map xs f) within in
    rw (sym (get_or-map f xs i d (f d) (omega arith)), sym (get_or-map f xs j d (f d) within))
    (pairs i j (f d) less long)

none_listed : {X : Type 0} (P : X → Type 0) → All P []
none_listed P k d l = absurd (omega arith)

unequal : (a b : ℕ) → (a == b) ≡ false → a ≢ b
unequal a b test = grind (arith, nat_tests)

itself : (a : ℕ) → (a == a) ≡ true
itself a = grind (arith, nat_tests)

-- two homes of which one is tested with both
twice : (a b c : ℕ) → (a == b) ≡ true → (a == c) ≡ true → b ≡ c
twice a b c first second = grind (arith, nat_tests)

-- a home's first row, and a row with a base more
abbrev new_row : Replaced → Row
new_row new = record { home = new.home; bases = new.base ∷ [] }

-- What holds of each home of a table and of the new one holds of each afterwards, and the other way round.
all_homes : (P : ℕ → Type 0) (table : List Row) (new : Replaced) → All (λ (row : Row). P row.home) table → P new.home
    → All (λ (row : Row). P row.home) (with_replaced table new)
all_homes P [] new all here =
    All-cons (λ (row : Row). P row.home) (new_row new) [] here (none_listed (λ (row : Row). P row.home))
all_homes P (row ∷ rows) new all here =
    let Q : Row → Type 0 = λ r. P r.home in
    by_home (row.home == new.home) (all_homes P rows new (All-tail Q row rows all) here)
  where
    by_home : (b : Bool) → All (λ (r : Row). P r.home) (with_replaced rows new)
        → All (λ (r : Row). P r.home) (cond b (more_of row new ∷ rows) (row ∷ with_replaced rows new))
    by_home true rest =
        let Q : Row → Type 0 = λ r. P r.home in
        All-cons Q (more_of row new) rows (All-head Q row rows all) (All-tail Q row rows all)
    by_home false rest =
        let Q : Row → Type 0 = λ r. P r.home in
        All-cons Q row (with_replaced rows new) (All-head Q row rows all) rest

one_back : (P : ℕ → Type 0) (table : List Row) (new : Replaced)
    → All (λ (row : Row). P row.home) (with_replaced table new)
    → All (λ (row : Row). P row.home) table × P new.home
one_back P [] new all =
    let Q : Row → Type 0 = λ r. P r.home in
    (none_listed Q, All-head Q (new_row new) [] all)
one_back P (row ∷ rows) new all = by_home (row.home == new.home) refl (one_back P rows new) all
  where
    by_home : (b : Bool) → (row.home == new.home) ≡ b
        → (All (λ (r : Row). P r.home) (with_replaced rows new) → All (λ (r : Row). P r.home) rows × P new.home)
        → All (λ (r : Row). P r.home) (cond b (more_of row new ∷ rows) (row ∷ with_replaced rows new))
        → All (λ (r : Row). P r.home) (row ∷ rows) × P new.home
    by_home true same back all =
        let Q : Row → Type 0 = λ r. P r.home in
        let here = All-head Q (more_of row new) rows all in (
          All-cons Q row rows here (All-tail Q (more_of row new) rows all),
          subst P (equal row.home new.home same) here,
        )
    by_home false other back all =
        let Q : Row → Type 0 = λ r. P r.home in
        let rest = back (All-tail Q row (with_replaced rows new) all) in
        (All-cons Q row rows (All-head Q row (with_replaced rows new) all) rest.0, rest.1)

all_back : (P : ℕ → Type 0) (table : List Row) (replaced : List Replaced)
    → All (λ (row : Row). P row.home) (fold with_replaced table replaced)
    → All (λ (row : Row). P row.home) table × All (λ (one : Replaced). P one.home) replaced
all_back P table [] all = (all, none_listed (λ (one : Replaced). P one.home))
all_back P table (new ∷ more) all =
    let later = all_back P (with_replaced table new) more all in
    let first = one_back P table new later.0 in
    (first.0, All-cons (λ (one : Replaced). P one.home) new more first.1 later.1)

pub all_homes_more : (P : ℕ → Type 0) (table : List Row) (replaced : List Replaced)
    → All (λ (row : Row). P row.home) table → All (λ (one : Replaced). P one.home) replaced
    → All (λ (row : Row). P row.home) (fold with_replaced table replaced)
all_homes_more P table [] all more_all = all
all_homes_more P table (new ∷ more) all more_all =
    let Q : Replaced → Type 0 = λ r. P r.home in
    all_homes_more P (with_replaced table new) more
    (all_homes P table new all (All-head Q new more more_all)) (All-tail Q new more more_all)

-- the rows of distinct homes
abbrev Differ : Row → Row → Type 0
Differ a b = a.home ≢ b.home

one_differs : (table : List Row) (new : Replaced) → AllPairs Differ table → AllPairs Differ (with_replaced table new)
one_differs [] new apart = λ i j d less within. absurd (omega arith)
one_differs (row ∷ rows) new apart =
    by_home (row.home == new.home) refl (one_differs rows new (pairs_tail Differ row rows apart))
  where
    by_home : (b : Bool) → (row.home == new.home) ≡ b → AllPairs Differ (with_replaced rows new)
        → AllPairs Differ (cond b (more_of row new ∷ rows) (row ∷ with_replaced rows new))
    by_home true same rest =
        AllPairs-cons Differ (more_of row new) rows (pairs_head Differ row rows apart)
        (pairs_tail Differ row rows apart)
    by_home false other rest =
        AllPairs-cons Differ row (with_replaced rows new)
        (all_homes (λ h. row.home ≢ h) rows new (pairs_head Differ row rows apart)
        (unequal row.home new.home other)) rest

one_differed : (table : List Row) (new : Replaced) → AllPairs Differ (with_replaced table new) → AllPairs Differ table
one_differed [] new apart = λ i j d less within. absurd (omega arith)
one_differed (row ∷ rows) new apart = by_home (row.home == new.home) (one_differed rows new) apart
  where
    by_home : (b : Bool) → (AllPairs Differ (with_replaced rows new) → AllPairs Differ rows)
        → AllPairs Differ (cond b (more_of row new ∷ rows) (row ∷ with_replaced rows new))
        → AllPairs Differ (row ∷ rows)
    by_home true back all =
        AllPairs-cons Differ row rows (pairs_head Differ (more_of row new) rows all)
        (pairs_tail Differ (more_of row new) rows all)
    by_home false back all =
        AllPairs-cons Differ row rows
        (one_back (λ h. row.home ≢ h) rows new (pairs_head Differ row (with_replaced rows new) all)).0
        (back (pairs_tail Differ row (with_replaced rows new) all))

differed : (table : List Row) (replaced : List Replaced) → AllPairs Differ (fold with_replaced table replaced)
    → AllPairs Differ table
differed table [] apart = apart
differed table (new ∷ more) apart = one_differed table new (differed (with_replaced table new) more apart)

-- each row has a base still
one_based : (table : List Row) (new : Replaced) → All (λ (row : Row). 0 < length row.bases) table
    → All (λ (row : Row). 0 < length row.bases) (with_replaced table new)
one_based [] new based =
    let Q : Row → Type 0 = λ r. 0 < length r.bases in
    All-cons Q (new_row new) [] (omega arith) (none_listed Q)
one_based (row ∷ rows) new based =
    let Q : Row → Type 0 = λ r. 0 < length r.bases in
    by_home (row.home == new.home) (one_based rows new (All-tail Q row rows based))
  where
    by_home : (b : Bool) → All (λ (r : Row). 0 < length r.bases) (with_replaced rows new)
        → All (λ (r : Row). 0 < length r.bases) (cond b (more_of row new ∷ rows) (row ∷ with_replaced rows new))
    by_home true rest =
        let Q : Row → Type 0 = λ r. 0 < length r.bases in
        All-cons Q (more_of row new) rows (omega (arith, length-append row.bases (new.base ∷ [])))
        (All-tail Q row rows based)
    by_home false rest =
        let Q : Row → Type 0 = λ r. 0 < length r.bases in
        All-cons Q row (with_replaced rows new) (All-head Q row rows based) rest

-- a table stays one when a function is replaced, and when several are
pub one_stays : (table : List Row) (new : Replaced) → IsTable table → IsTable (with_replaced table new)
one_stays table new is = record {
  homes = one_differs table new is.homes;
  based = one_based table new is.based;
}

pub table_stays : (table : List Row) (replaced : List Replaced) → IsTable table
    → IsTable (fold with_replaced table replaced)
table_stays table [] is = is
table_stays table (new ∷ more) is = table_stays (with_replaced table new) more (one_stays table new is)

-- a list without the last items that were appended
pub last_back : {X : Type 0} (xs ys : List X) → without_last (length ys) (xs ++ ys) ≡ xs
last_back xs ys =
    let short : length (xs ++ ys) - length ys ≡ length xs = omega (arith, length-append xs ys) in
    ap (λ (n : ℕ). take n (xs ++ ys)) short ∙ take-append_seam xs ys

-- a row without the base that was appended
shorter_back : (row : Row) (new : Replaced) → 0 < length row.bases → shorter (more_of row new) ≡ row ∷ []
shorter_back row new some =
    let several : nat_eq (length (row.bases ++ new.base ∷ [])) 1 ≡ false =
    ne_eqb (length (row.bases ++ new.base ∷ [])) 1 (omega (arith, length-append row.bases (new.base ∷ []))) in
    ap (λ (b : Bool). let one : Row = record row { bases = without_last 1 (row.bases ++ new.base ∷ []) } in
    cond b [] (one ∷ [])) several
    ∙ ap (λ (bases : List ℕ). let one : Row = record row { bases = bases } in one ∷ [])
    (last_back row.bases (new.base ∷ []))

one_taken : (table : List Row) (new : Replaced) → All (λ (row : Row). 0 < length row.bases) table
    → without_base (with_replaced table new) new ≡ table
one_taken [] new based =
    ap (λ (b : Bool). cond b (shorter (new_row new) ++ []) (new_row new ∷ [])) (itself new.home)
one_taken (row ∷ rows) new based =
    let Q : Row → Type 0 = λ r. 0 < length r.bases in
    by_home (row.home == new.home) refl (one_taken rows new (All-tail Q row rows based))
  where
    by_home : (b : Bool) → (row.home == new.home) ≡ b → without_base (with_replaced rows new) new ≡ rows
        → without_base (cond b (more_of row new ∷ rows) (row ∷ with_replaced rows new)) new ≡ row ∷ rows
    by_home true same rest =
        let Q : Row → Type 0 = λ r. 0 < length r.bases in
        ap (λ (b : Bool). cond b (shorter (more_of row new) ++ rows) (more_of row new ∷ without_base rows new)) same
        ∙ ap (λ (rs : List Row). rs ++ rows) (shorter_back row new (All-head Q row rows based))
    by_home false other rest =
        ap (λ (b : Bool). cond b (shorter row ++ with_replaced rows new)
        (row ∷ without_base (with_replaced rows new) new)) other
        ∙ ap (λ (rs : List Row). row ∷ rs) rest

-- what is done at one home goes past what is done at another
past_shorter : (row : Row) (rows : List Row) (new : Replaced) → (row.home == new.home) ≡ false
    → shorter row ++ with_replaced rows new ≡ with_replaced (shorter row ++ rows) new
past_shorter row rows new other = by_length (nat_eq (length row.bases) 1)
  where
    less : Row
    less = record row { bases = without_last 1 row.bases }

    by_length : (b : Bool)
        → cond b [] (record row { bases = without_last 1 row.bases } ∷ []) ++ with_replaced rows new
        ≡ with_replaced (cond b [] (record row { bases = without_last 1 row.bases } ∷ []) ++ rows) new
    by_length true = refl
    by_length false =
        let one : Row = record row { bases = without_last 1 row.bases } in
        ap (λ (b : Bool). cond b (more_of one new ∷ rows) (one ∷ with_replaced rows new)) (sym other)

one_past : (table : List Row) (new old : Replaced) → new.home ≢ old.home
    → without_base (with_replaced table new) old ≡ with_replaced (without_base table old) new
one_past [] new old other =
    ap (λ (b : Bool). cond b (shorter (new_row new) ++ []) (new_row new ∷ [])) (ne_eqb new.home old.home other)
one_past (row ∷ rows) new old other =
    by_home (row.home == new.home) (row.home == old.home) refl refl (one_past rows new old other)
  where
    by_home : (b c : Bool) → (row.home == new.home) ≡ b → (row.home == old.home) ≡ c
        → without_base (with_replaced rows new) old ≡ with_replaced (without_base rows old) new
        → without_base (cond b (more_of row new ∷ rows) (row ∷ with_replaced rows new)) old
        ≡ with_replaced (cond c (shorter row ++ rows) (row ∷ without_base rows old)) new
    by_home true true same both rest = absurd (other (twice row.home new.home old.home same both))
    by_home true false same apart rest =
        ap (λ (c : Bool). cond c (shorter (more_of row new) ++ rows) (more_of row new ∷ without_base rows old)) apart
        ∙ ap (λ (b : Bool). cond b (more_of row new ∷ without_base rows old)
        (row ∷ with_replaced (without_base rows old) new)) (sym same)
    by_home false true apart same rest =
        ap (λ (c : Bool). cond c (shorter row ++ with_replaced rows new)
        (row ∷ without_base (with_replaced rows new) old)) same
        ∙ past_shorter row rows new apart
    by_home false false apart aside rest =
        ap (λ (c : Bool). cond c (shorter row ++ with_replaced rows new)
        (row ∷ without_base (with_replaced rows new) old)) aside
        ∙ ap (λ (rs : List Row). row ∷ rs) rest
        ∙ ap (λ (b : Bool). cond b (more_of row new ∷ without_base rows old)
        (row ∷ with_replaced (without_base rows old) new)) (sym apart)

all_past : (table : List Row) (replaced : List Replaced) (old : Replaced)
    → All (λ (new : Replaced). old.home ≢ new.home) replaced
    → without_base (fold with_replaced table replaced) old ≡ fold with_replaced (without_base table old) replaced
all_past table [] old apart = refl
all_past table (new ∷ more) old apart =
    let Q : Replaced → Type 0 = λ one. old.home ≢ one.home in
    all_past (with_replaced table new) more old (All-tail Q new more apart)
    ∙ ap (λ (rows : List Row). fold with_replaced rows more)
    (one_past table new old (λ same. All-head Q new more apart (sym same)))

-- functions with homes of their own that were replaced are taken back
pub table_back : (table : List Row) (replaced : List Replaced) → IsTable table
    → AllPairs (λ (a b : Replaced). a.home ≢ b.home) replaced
    → fold without_base (fold with_replaced table replaced) replaced ≡ table
table_back table [] is once = refl
table_back table (new ∷ more) is once =
    let R : Replaced → Replaced → Type 0 = λ a b. a.home ≢ b.home in
    ap (λ (rows : List Row). fold without_base rows more)
    (all_past (with_replaced table new) more new (pairs_head R new more once)
    ∙ ap (λ (rows : List Row). fold with_replaced rows more) (one_taken table new is.based))
    ∙ table_back table more is (pairs_tail R new more once)

newest_more : (row : Row) (new : Replaced) → newest_in (more_of row new) ≡ (row.home, new.base)
newest_more row new =
    ap (λ (o : Option ℕ). let pair : ℕ × ℕ = (row.home, unwrap_or o row.home) in pair)
    (last_more None row.bases new.base)

-- a base that is put over another where its home is this one
abbrev pub base_over : ℕ → ℕ → Replaced → ℕ
base_over home base new = if new.home == home then new.base else base

one_newest : (table : List Row) (new : Replaced) (home : ℕ)
    → newest (bodies_in (with_replaced table new)) home ≡ base_over home (newest (bodies_in table) home) new
one_newest [] new home = refl
one_newest (row ∷ rows) new home =
    by_home (row.home == new.home) (row.home == home) refl refl (one_newest rows new home)
  where
    was : ℕ
    was = newest (bodies_in rows) home

    by_home : (b c : Bool) → (row.home == new.home) ≡ b → (row.home == home) ≡ c
        → newest (bodies_in (with_replaced rows new)) home ≡ base_over home (newest (bodies_in rows) home) new
        → newest (bodies_in (cond b (more_of row new ∷ rows) (row ∷ with_replaced rows new))) home
        ≡ base_over home (cond c (newest_in row).1 (newest (bodies_in rows) home)) new
    by_home true true same here rest =
        ap (λ (pair : ℕ × ℕ). cond (pair.0 == home) pair.1 (newest (bodies_in rows) home)) (newest_more row new)
        ∙ ap (λ (b : Bool). cond b new.base (newest (bodies_in rows) home)) here
        ∙ ap (λ (b : Bool). cond b new.base (newest_in row).1)
        (sym (ap (λ (h : ℕ). h == home) (sym (equal row.home new.home same)) ∙ here))
    by_home true false same apart rest =
        ap (λ (pair : ℕ × ℕ). cond (pair.0 == home) pair.1 (newest (bodies_in rows) home)) (newest_more row new)
        ∙ ap (λ (h : ℕ). cond (h == home) new.base (newest (bodies_in rows) home)) (equal row.home new.home same)
    by_home false true other here rest =
        ap (λ (b : Bool). cond b (newest_in row).1 (newest (bodies_in (with_replaced rows new)) home)) here
        ∙ ap (λ (b : Bool). cond b new.base (newest_in row).1)
        (sym (ne_eqb new.home home (λ same. unequal row.home new.home other (equal row.home home here ∙ sym same))))
    by_home false false other apart rest =
        ap (λ (b : Bool). cond b (newest_in row).1 (newest (bodies_in (with_replaced rows new)) home)) apart
        ∙ rest

-- what holds of the newest bases of a table and of new ones holds of those afterwards
one_low : (P : ℕ → Type 0) (table : List Row) (new : Replaced) → All (λ (row : Row). P (newest_in row).1) table
    → P new.base → All (λ (row : Row). P (newest_in row).1) (with_replaced table new)
one_low P [] new all here =
    let Q : Row → Type 0 = λ r. P (newest_in r).1 in
    All-cons Q (new_row new) [] here (none_listed Q)
one_low P (row ∷ rows) new all here =
    let Q : Row → Type 0 = λ r. P (newest_in r).1 in
    by_home (row.home == new.home) (one_low P rows new (All-tail Q row rows all) here)
  where
    by_home : (b : Bool) → All (λ (r : Row). P (newest_in r).1) (with_replaced rows new)
        → All (λ (r : Row). P (newest_in r).1) (cond b (more_of row new ∷ rows) (row ∷ with_replaced rows new))
    by_home true rest =
        let Q : Row → Type 0 = λ r. P (newest_in r).1 in
        All-cons Q (more_of row new) rows
        (subst (λ (pair : ℕ × ℕ). P pair.1) (sym (newest_more row new)) here) (All-tail Q row rows all)
    by_home false rest =
        let Q : Row → Type 0 = λ r. P (newest_in r).1 in
        All-cons Q row (with_replaced rows new) (All-head Q row rows all) rest

all_low : (P : ℕ → Type 0) (table : List Row) (replaced : List Replaced)
    → All (λ (row : Row). P (newest_in row).1) table → All (λ (one : Replaced). P one.base) replaced
    → All (λ (row : Row). P (newest_in row).1) (fold with_replaced table replaced)
all_low P table [] all more_all = all
all_low P table (new ∷ more) all more_all =
    let Q : Replaced → Type 0 = λ one. P one.base in
    all_low P (with_replaced table new) more
    (one_low P table new all (All-head Q new more more_all)) (All-tail Q new more more_all)

pub bases_after : (P : ℕ → Type 0) (table : List Row) (replaced : List Replaced)
    → All (λ (row : ℕ × ℕ). P row.1) (bodies_in table) → All (λ (one : Replaced). P one.base) replaced
    → All (λ (row : ℕ × ℕ). P row.1) (bodies_in (fold with_replaced table replaced))
bases_after P table replaced all more_all =
    All-map (λ (row : ℕ × ℕ). P row.1) newest_in (fold with_replaced table replaced)
    (all_low P table replaced (all_read newest_in (λ (row : ℕ × ℕ). P row.1) table all) more_all)

-- The newest base of a home afterwards is that of the last replaced function with it, or else what it was.
pub newest_after : (table : List Row) (replaced : List Replaced) (home : ℕ)
    → newest (bodies_in (fold with_replaced table replaced)) home
    ≡ fold (base_over home) (newest (bodies_in table) home) replaced
newest_after table [] home = refl
newest_after table (new ∷ more) home =
    newest_after (with_replaced table new) more home
    ∙ ap (λ (base : ℕ). fold (base_over home) base more) (one_newest table new home)

-- the bodies of a table in which one more function was replaced
other_bases : (rows : List Row) (home base : ℕ) → All (λ (row : Row). home ≢ row.home) rows
    → with_base home base (bodies_in rows) ≡ bodies_in rows
other_bases [] home base apart = refl
other_bases (row ∷ rows) home base apart =
    let Q : Row → Type 0 = λ r. home ≢ r.home in
    ap (λ (b : Bool). let pair : ℕ × ℕ = (home, base) in
    cond b pair (newest_in row) ∷ with_base home base (bodies_in rows))
    (ne_eqb row.home home (λ same. All-head Q row rows apart (sym same)))
    ∙ ap (λ (pairs : List (ℕ × ℕ)). newest_in row ∷ pairs) (other_bases rows home base (All-tail Q row rows apart))

bodies_more : (table : List Row) (new : Replaced) → is_home table new.home ≡ false
    → bodies_in (with_replaced table new) ≡ bodies_in table ++ (new.home, new.base) ∷ []
bodies_more [] new none = refl
bodies_more (row ∷ rows) new none = by_home (row.home == new.home) none (bodies_more rows new)
  where
    by_home : (b : Bool) → (b || is_home rows new.home) ≡ false
        → (is_home rows new.home ≡ false
        → bodies_in (with_replaced rows new) ≡ bodies_in rows ++ (new.home, new.base) ∷ [])
        → bodies_in (cond b (more_of row new ∷ rows) (row ∷ with_replaced rows new))
        ≡ newest_in row ∷ (bodies_in rows ++ (new.home, new.base) ∷ [])
    by_home true none rest = absurd (cc)
    by_home false none rest = ap (λ (pairs : List (ℕ × ℕ)). newest_in row ∷ pairs) (rest none)

bodies_over : (table : List Row) (new : Replaced) → AllPairs Differ table → is_home table new.home ≡ true
    → bodies_in (with_replaced table new) ≡ with_base new.home new.base (bodies_in table)
bodies_over [] new apart there = absurd (cc)
bodies_over (row ∷ rows) new apart there =
    by_home (row.home == new.home) refl there (bodies_over rows new (pairs_tail Differ row rows apart))
  where
    by_home : (b : Bool) → (row.home == new.home) ≡ b → (b || is_home rows new.home) ≡ true
        → (is_home rows new.home ≡ true
        → bodies_in (with_replaced rows new) ≡ with_base new.home new.base (bodies_in rows))
        → bodies_in (cond b (more_of row new ∷ rows) (row ∷ with_replaced rows new))
        ≡ row_with new.home new.base (newest_in row) ∷ with_base new.home new.base (bodies_in rows)
    by_home true same there rest =
        ap (λ (pair : ℕ × ℕ). pair ∷ bodies_in rows)
        (newest_more row new
        ∙ ap (λ (h : ℕ). let pair : ℕ × ℕ = (h, new.base) in pair) (equal row.home new.home same))
        ∙ ap (λ (pairs : List (ℕ × ℕ)). let pair : ℕ × ℕ = (new.home, new.base) in pair ∷ pairs)
        (sym (other_bases rows new.home new.base
        (subst (λ (h : ℕ). All (λ (r : Row). h ≢ r.home) rows) (equal row.home new.home same)
        (pairs_head Differ row rows apart))))
        ∙ ap (λ (b : Bool). let pair : ℕ × ℕ = (new.home, new.base) in
        cond b pair (newest_in row) ∷ with_base new.home new.base (bodies_in rows)) (sym same)
    by_home false other there rest =
        ap (λ (pairs : List (ℕ × ℕ)). newest_in row ∷ pairs) (rest there)
        ∙ ap (λ (b : Bool). let pair : ℕ × ℕ = (new.home, new.base) in
        cond b pair (newest_in row) ∷ with_base new.home new.base (bodies_in rows)) (sym other)

-- the laws of memory with jumps that are used here
abbrev pub JumpsAdded : Type 0
JumpsAdded = (rows : List (ℕ × ℕ)) (home base : ℕ) (pieces : List Piece)
    → jumped (rows ++ (home, base) ∷ []) pieces ≡ with_jump home base (jumped rows pieces)

abbrev pub JumpsReplaced : Type 0
JumpsReplaced = (contents : Contents) (rows : List (ℕ × ℕ)) (home base : ℕ) → IsValid contents
    → AreSpliced contents rows → Any (λ row. row.0 ≡ home) rows
    → with_jump home base (jumped rows contents.pieces) ≡ jumped (with_base home base rows) contents.pieces

-- a table whose homes are spliced
pub table_spliced : (contents : Contents) (table : List Row)
    → All (λ (row : Row). IsSpliced contents row.home) table → AllPairs (λ (a b : Row). a.home ≢ b.home) table
    → AreSpliced contents (bodies_in table)
table_spliced contents table each once = record {
  each = All-map (λ (row : ℕ × ℕ). IsSpliced contents row.0) newest_in table each;
  once = pairs_map newest_in (λ (a b : ℕ × ℕ). a.0 ≢ b.0) table once;
}

homes_once : (contents : Contents) (table : List Row) → AreSpliced contents (bodies_in table) → AllPairs Differ table
homes_once contents table spliced = pairs_read newest_in (λ (a b : ℕ × ℕ). a.0 ≢ b.0) table spliced.once

-- where the homes of a table are spliced after functions were replaced, those before were, and the functions' own are
pub spliced_before : (contents : Contents) (table : List Row) (replaced : List Replaced)
    → AreSpliced contents (bodies_in (fold with_replaced table replaced)) → AreSpliced contents (bodies_in table)
spliced_before contents table replaced spliced =
    let after = fold with_replaced table replaced in
    table_spliced contents table
    (all_back (IsSpliced contents) table replaced (homes_spliced contents after spliced)).0
    (differed table replaced (homes_once contents after spliced))

pub spliced_new : (contents : Contents) (table : List Row) (replaced : List Replaced)
    → AllPairs (λ (a b : Replaced). a.home ≢ b.home) replaced
    → AreSpliced contents (bodies_in (fold with_replaced table replaced)) → AreSpliced contents (jump_rows replaced)
spliced_new contents table replaced once spliced = record {
  each =
      All-map (λ (row : ℕ × ℕ). IsSpliced contents row.0) jump_row replaced
      (all_back (IsSpliced contents) table replaced
      (homes_spliced contents (fold with_replaced table replaced) spliced)).1;
  once = pairs_map jump_row (λ (a b : ℕ × ℕ). a.0 ≢ b.0) replaced once;
}

pub home_listed : (table : List Row) (home : ℕ) → is_home table home ≡ true
    → Any (λ (row : ℕ × ℕ). row.0 ≡ home) (bodies_in table)
home_listed table home there = read (Any-from_list_any (λ row. row.home == home) table there)
  where
    read : Any (λ (row : Row). (row.home == home) ≡ true) table → Any (λ (row : ℕ × ℕ). row.0 ≡ home) (bodies_in table)
    read (k, row, less, at, passes) = (
      k,
      newest_in row,
      rw (length-map table newest_in) less,
      get_or-map newest_in table k row (newest_in row) less ∙ ap newest_in at,
      equal row.home home passes,
    )

one_jump : JumpsAdded → JumpsReplaced → (contents : Contents) (table : List Row) (new : Replaced) → IsValid contents
    → AreSpliced contents (bodies_in table)
    → jumped (bodies_in (with_replaced table new)) contents.pieces
    ≡ with_jump new.home new.base (jumped (bodies_in table) contents.pieces)
one_jump added over contents table new valid spliced = by_home (is_home table new.home) refl
  where
    by_home : (b : Bool) → is_home table new.home ≡ b
        → jumped (bodies_in (with_replaced table new)) contents.pieces
        ≡ with_jump new.home new.base (jumped (bodies_in table) contents.pieces)
    by_home true there =
        ap (λ (rows : List (ℕ × ℕ)). jumped rows contents.pieces)
        (bodies_over table new (homes_once contents table spliced) there)
        ∙ sym (over contents (bodies_in table) new.home new.base valid spliced
        (home_listed table new.home there))
    by_home false none =
        ap (λ (rows : List (ℕ × ℕ)). jumped rows contents.pieces) (bodies_more table new none)
        ∙ added (bodies_in table) new.home new.base contents.pieces

-- The jumps of a table are those of the one before it, with those of the functions that were replaced since.
pub jumps_stacked : JumpsAdded → JumpsReplaced → (contents : Contents) (table : List Row) (replaced : List Replaced)
    → IsValid contents → AreSpliced contents (bodies_in (fold with_replaced table replaced))
    → jumped (bodies_in (fold with_replaced table replaced)) contents.pieces
    ≡ jumped (jump_rows replaced) (jumped (bodies_in table) contents.pieces)
unfolding jumped
jumps_stacked added over contents table [] valid spliced = refl
jumps_stacked added over contents table (new ∷ more) valid spliced =
    jumps_stacked added over contents (with_replaced table new) more valid spliced
    ∙ ap (jumped (jump_rows more)) (one_jump added over contents table new valid
    (spliced_before contents table (new ∷ more) spliced))
