-- What the calls find of live updates is what the machine has of them.
use Rattle.std.proofs.Common.{◌≡◌, ◌≢◌, ℕ, suc, ◌+◌, ◌<◌, ◌==◌, ◌||◌, Bool, true, false, cond, nat_eq, refl, sym, ◌∙◌}
use Rattle.std.proofs.Common.{List, [], ◌∷◌, ◌++◌, map, length, take, get_or, Option, None, ap, arith, ne_eqb, subst}
use Rattle.std.proofs.Common.{◌≤◌, nat_lt, slice_get, Some, MatchOption}
use Rattle.std.specs.Option.{unwrap_or}
use Rattle.std.specs.List.{All, AllPairs, find, fold, flat_map, list_any, position, position_or_len, IsDistinct}
use Rattle.std.specs.List.{AllByRecursion}
use Rattle.std.proofs.lemmas.Option.{slice_get_past}
use Rattle.std.proofs.lemmas.Bool.Decides.{nat_tests}
use Rattle.std.proofs.lemmas.List.{take_more}
use Rattle.indexmap.specs.IndexMap.{insert_entry, insert_all}
use Rattle.ks_base.specs.declared.places.Range.{Range}
use Rattle.ks_base.specs.declared.reports.Replaced.{Replaced}
use Rattle.i386_reloc.specs.Normal.{same_bytes}
use Rattle.symbol_table.specs.Bodies.{homes}
use Rattle.update_stack.specs.declared.updates.Update.{Update as Shown}
use Rattle.update_stack.specs.declared.updates.Kept.{Kept}
use Rattle.update_stack.specs.AbstractMachine.{Row, Update, newest_in, bodies_in, jump_rows, with_replaced}
use Rattle.update_stack.specs.Apply.{has_name}
use Rattle.update_stack.specs.Systems.{replaced_by, table_of, live_update, live_updates}
use Rattle.update_stack.proofs.AtLaws.{length_live}
use Rattle.update_stack.specs.laws.StackedLaws.{last_more}
use Rattle.update_stack.proofs.LastLaws.{table_more}
use Rattle.update_stack.proofs.TableLaws.{IsTable, pairs_map, first_table, table_stays}

-- homes of which none stands twice
far_off : (x : ℕ) (xs : List ℕ) → All (λ y. x ≢ y) xs → AllByRecursion (λ y. nat_eq x y ≡ false) xs
far_off x [] all = tt
far_off x (y ∷ ys) all = (ne_eqb x y (all 0 y (omega arith)), far_off x ys (λ i d l. all (suc i) d (omega arith)))

distinct_of : (xs : List ℕ) → AllPairs (λ (a b : ℕ). a ≢ b) xs → IsDistinct nat_eq xs
unfolding IsDistinct
distinct_of [] once = tt
distinct_of (x ∷ xs) once = (
  far_off x xs (λ i d l. once 0 (suc i) d (omega arith) (omega arith)),
  distinct_of xs (λ i j d less l. once (suc i) (suc j) d (omega arith) (omega arith)),
)

-- the homes of a table, as rows with their newest bases
homes_are : (table : List Row) → homes (bodies_in table) ≡ map (λ (row : Row). row.home) table
homes_are [] = refl
homes_are (row ∷ rows) = ap (λ (hs : List ℕ). row.home ∷ hs) (homes_are rows)

homes_once : (table : List Row) → AllPairs (λ (a b : Row). a.home ≢ b.home) table
    → AllPairs (λ (a b : ℕ). a ≢ b) (map (λ (row : Row). row.home) table)
homes_once table once = pairs_map (λ (row : Row). row.home) (λ (a b : ℕ). a ≢ b) table once

pub table_is : (updates : List Shown) → IsTable (table_of updates)
table_is updates = table_stays [] (replaced_by updates) first_table

pub homes_distinct : (updates : List Shown) → IsDistinct nat_eq (homes (bodies_in (table_of updates)))
homes_distinct updates =
    let table = table_of updates in
    subst (IsDistinct nat_eq) (sym (homes_are table))
    (distinct_of (map (λ (row : Row). row.home) table) (homes_once table (table_is updates).homes))

-- a base put in place of its home's, or after the others
other_way : (a b : ℕ) → (a == b) ≡ (b == a)
other_way a b = grind (arith, nat_tests)

put_is : (table : List Row) (new : Replaced)
    → insert_entry nat_eq (bodies_in table) new.home new.base ≡ bodies_in (with_replaced table new)
put_is [] new = refl
put_is (row ∷ rows) new =
    ap (λ (b : Bool). cond b ((row.home, new.base) ∷ bodies_in rows)
    (newest_in row ∷ insert_entry nat_eq (bodies_in rows) new.home new.base)) (other_way new.home row.home)
    ∙ by_home (row.home == new.home) (put_is rows new)
  where
    by_home : (b : Bool)
        → insert_entry nat_eq (bodies_in rows) new.home new.base ≡ bodies_in (with_replaced rows new)
        → cond b ((row.home, new.base) ∷ bodies_in rows)
        (newest_in row ∷ insert_entry nat_eq (bodies_in rows) new.home new.base)
        ≡ bodies_in (cond b (record row { bases = row.bases ++ new.base ∷ [] } ∷ rows) (row ∷ with_replaced rows new))
    by_home true rest =
        ap (λ (o : Option ℕ). let pair : ℕ × ℕ = (row.home, unwrap_or o row.home) in pair ∷ bodies_in rows)
        (sym (last_more None row.bases new.base))
    by_home false rest = ap (λ (es : List (ℕ × ℕ)). newest_in row ∷ es) rest

pub all_put : (table : List Row) (replaced : List Replaced)
    → insert_all nat_eq (bodies_in table) (jump_rows replaced) ≡ bodies_in (fold with_replaced table replaced)
all_put table [] = refl
all_put table (new ∷ more) =
    ap (λ (es : List (ℕ × ℕ)). insert_all nat_eq es (jump_rows more)) (put_is table new)
    ∙ all_put (with_replaced table new) more

-- the newest bases with one update more are those before, in which the bases of its functions are put
pub next_put : (updates : List Shown) (i : ℕ) (update : Shown) → i < length updates → update ≡ get_or updates i update
    → insert_all nat_eq (bodies_in (table_of (take i updates))) (jump_rows update.report.replaced)
    ≡ bodies_in (table_of (take (i + 1) updates))
next_put updates i update less is =
    let more : take (i + 1) updates ≡ take i updates ++ update ∷ [] =
    take_more updates i update less ∙ ap (λ (one : Shown). take i updates ++ one ∷ []) (sym is) in
    all_put (table_of (take i updates)) update.report.replaced
    ∙ ap bodies_in (sym (table_more (take i updates) update))
    ∙ ap (λ (us : List Shown). bodies_in (table_of us)) (sym more)

-- the ranges that live updates retired, and whether one has a name
pub retired_live : (updates : List Shown) (kept : List Kept) → length kept ≡ length updates
    → flat_map (λ (one : Kept). one.retired) kept
    ≡ flat_map (λ (update : Update). update.retired) (live_updates updates kept)
retired_live [] [] paired = refl
retired_live [] (one ∷ kept) paired = absurd (omega (arith, paired))
retired_live (update ∷ updates) [] paired = absurd (omega (arith, paired))
retired_live (update ∷ updates) (one ∷ kept) paired =
    ap (λ (rs : List Range). one.retired ++ rs) (retired_live updates kept (omega (arith, paired)))

pub named_live : (updates : List Shown) (kept : List Kept) (name : List ℕ) → length kept ≡ length updates
    → list_any (λ (update : Shown). same_bytes update.name name) updates
    ≡ list_any (has_name name) (live_updates updates kept)
named_live [] kept name paired = refl
named_live (update ∷ updates) [] name paired = absurd (omega (arith, paired))
named_live (update ∷ updates) (one ∷ kept) name paired =
    ap (λ (b : Bool). same_bytes update.name name || b) (named_live updates kept name (omega (arith, paired)))

-- The place of the first live update of a name is that of the first that is shown with it.
pub placed_first : (updates : List Shown) (kept : List Kept) (name : List ℕ) → length kept ≡ length updates
    → slice_get (live_updates updates kept) (position_or_len (λ (update : Shown). same_bytes update.name name) updates)
    ≡ find (has_name name) (live_updates updates kept)
placed_first [] kept name paired = refl
placed_first (update ∷ updates) [] name paired = absurd (omega (arith, paired))
placed_first (update ∷ updates) (one ∷ kept) name paired =
    by_name (same_bytes update.name name) refl (placed_first updates kept name (omega (arith, paired)))
  where
    by_name : (b : Bool) → same_bytes update.name name ≡ b
        → slice_get (live_updates updates kept)
        (position_or_len (λ (u : Shown). same_bytes u.name name) updates)
        ≡ find (has_name name) (live_updates updates kept)
        → slice_get (live_update update one ∷ live_updates updates kept)
        (position_or_len (λ (u : Shown). same_bytes u.name name) (update ∷ updates))
        ≡ find (has_name name) (live_update update one ∷ live_updates updates kept)
    by_name true is rest =
        let first : position_or_len (λ (u : Shown). same_bytes u.name name) (update ∷ updates) ≡ 0 =
        rw is refl in
        ap (slice_get (live_update update one ∷ live_updates updates kept)) first
        ∙ sym (ap (λ (b : Bool). cond b (Some (live_update update one)) (find (has_name name) (live_updates updates kept)))
        is)
    by_name false is rest =
        let place = position_or_len (λ (u : Shown). same_bytes u.name name) updates in
        let later : position_or_len (λ (u : Shown). same_bytes u.name name) (update ∷ updates) ≡ suc place =
        rw is (omega arith) in
        ap (slice_get (live_update update one ∷ live_updates updates kept)) later
        ∙ rest
        ∙ sym (ap (λ (b : Bool). cond b (Some (live_update update one)) (find (has_name name) (live_updates updates kept)))
        is)

pub found_at : (updates : List Shown) (kept : List Kept) (name : List ℕ) → length kept ≡ length updates
    → (o : Option ℕ) → o ≡ position (λ (update : Shown). same_bytes update.name name) updates
    → MatchOption o (find (has_name name) (live_updates updates kept) ≡ None)
    (λ at. (at < length (live_updates updates kept))
    × (slice_get (live_updates updates kept) at ≡ find (has_name name) (live_updates updates kept)))
found_at updates kept name paired o is =
    subst (λ (p : Option ℕ). MatchOption p (find (has_name name) (live_updates updates kept) ≡ None)
    (λ at. (at < length (live_updates updates kept))
    × (slice_get (live_updates updates kept) at ≡ find (has_name name) (live_updates updates kept)))) (sym is)
    (by_place (nat_lt place (length updates)) refl)
  where
    place : ℕ
    place = position_or_len (λ (u : Shown). same_bytes u.name name) updates

    by_place : (b : Bool) → nat_lt place (length updates) ≡ b
        → MatchOption (cond b (Some place) None)
        (find (has_name name) (live_updates updates kept) ≡ None)
        (λ at. (at < length (live_updates updates kept))
        × (slice_get (live_updates updates kept) at ≡ find (has_name name) (live_updates updates kept)))
    by_place true inside =
        let less : place < length updates = grind (arith, nat_tests) in
        let many = length_live updates kept paired in
        (omega (arith, less, many), placed_first updates kept name paired)
    by_place false outside =
        let past : length updates ≤ place = grind (arith, nat_tests) in
        let many = length_live updates kept paired in
        sym (placed_first updates kept name paired)
        ∙ slice_get_past (live_updates updates kept) place (omega (arith, past, many))
