-- Live updates, and what is kept of them, with one among the others: the text, the table and the updates with it and
-- without it.
use Rattle.std.proofs.Common.{◌≡◌, ◌≢◌, ℕ, zero, suc, ◌+◌, ◌≤◌, ◌<◌, take, List, [], ◌∷◌, ◌++◌, length, get_or, refl, sym, ◌∙◌, ap, arith}
use Rattle.std.proofs.Common.{length-append}
use Rattle.std.specs.List.{All, AllPairs, flat_map, fold}
use Rattle.std.proofs.lemmas.List.Elements.{All-head, All-tail, All-append}
use Rattle.std.proofs.lemmas.Grind.{flat_map-append, fold-append}
use Rattle.ks_base.specs.declared.reports.Replaced.{Replaced}
use Rattle.image_memory.specs.declared.types.Piece.{Piece}
use Rattle.image_memory.specs.Ranges.{Ascends}
use Rattle.image_memory.specs.Contents.{piece_range}
use Rattle.symbol_table.specs.declared.symbols.Symbol.{Symbol}
use Rattle.splice_jump.specs.Jumps.{unjumped}
use Rattle.update_memory.specs.Rows.{olds_of}
use Rattle.update_stack.specs.declared.updates.Update.{Update as Shown}
use Rattle.update_stack.specs.declared.updates.Kept.{Kept}
use Rattle.update_stack.specs.AbstractMachine.{Row, Update, with_replaced}
use Rattle.update_stack.specs.Undo.{without_base, symbols_of}
use Rattle.update_stack.specs.Uncovered.{HasOtherHomes}
use Rattle.update_stack.specs.Systems.{text_of, replaced_by, table_of, live_update, live_updates}
use Rattle.update_stack.proofs.TableLaws.{first_table, table_stays, table_back}
use Rattle.update_stack.proofs.ApartLaws.{AllAway, writes_swapped}
use Rattle.update_stack.proofs.PastLaws.{replaced_past}
use Rattle.update_stack.proofs.StandingLaws.{ascends_after}

-- live updates part where what is kept of them does
pub live_joined : (earlier later : List Shown) (kept_earlier kept_later : List Kept)
    → length kept_earlier ≡ length earlier
    → live_updates (earlier ++ later) (kept_earlier ++ kept_later)
    ≡ live_updates earlier kept_earlier ++ live_updates later kept_later
live_joined [] later [] kept_later beside = refl
live_joined [] later (one ∷ kept_earlier) kept_later beside = absurd (omega arith)
live_joined (update ∷ earlier) later [] kept_later beside = absurd (omega arith)
live_joined (update ∷ earlier) later (one ∷ kept_earlier) kept_later beside =
    ap (λ (us : List Update). live_update update one ∷ us)
    (live_joined earlier later kept_earlier kept_later (omega arith))

-- the symbols of live updates are those that are kept of them
pub symbols_kept : (updates : List Shown) (kept : List Kept) → length kept ≡ length updates
    → symbols_of (live_updates updates kept) ≡ flat_map (λ (one : Kept). one.symbols) kept
symbols_kept [] [] paired = refl
symbols_kept [] (one ∷ kept) paired = absurd (omega arith)
symbols_kept (update ∷ updates) [] paired = absurd (omega arith)
symbols_kept (update ∷ updates) (one ∷ kept) paired =
    ap (λ (ss : List Symbol). one.symbols ++ ss) (symbols_kept updates kept (omega arith))

-- the text
pub text_joined : (kept later : List Kept) (pieces : List Piece)
    → text_of (kept ++ later) pieces ≡ text_of kept (text_of later pieces)
text_joined [] later pieces = refl
text_joined (one ∷ kept) later pieces = ap (unjumped (olds_of one.jumps)) (text_joined kept later pieces)

ascends_text : (kept : List Kept) (pieces : List Piece) → Ascends piece_range 0 pieces
    → Ascends piece_range 0 (text_of kept pieces)
ascends_text [] pieces up = up
ascends_text (one ∷ kept) pieces up =
    ascends_after (olds_of one.jumps) (text_of kept pieces) (ascends_text kept pieces up)

-- old code at other homes is put back before or after it
pub text_swapped : (olds : List (ℕ × List ℕ)) (later : List Kept) (pieces : List Piece)
    → Ascends piece_range 0 pieces → All (λ (one : Kept). AllAway olds (olds_of one.jumps)) later
    → unjumped olds (text_of later pieces) ≡ text_of later (unjumped olds pieces)
text_swapped olds [] pieces up apart = refl
text_swapped olds (one ∷ later) pieces up apart =
    let P : Kept → Type 0 = λ o. AllAway olds (olds_of o.jumps) in
    writes_swapped olds (olds_of one.jumps) (text_of later pieces) (ascends_text later pieces up)
    (All-head P one later apart)
    ∙ ap (unjumped (olds_of one.jumps)) (text_swapped olds later pieces up (All-tail P one later apart))

-- the table
replaced_joined : (earlier later : List Shown)
    → replaced_by (earlier ++ later) ≡ replaced_by earlier ++ replaced_by later
replaced_joined earlier later = flat_map-append (λ (u : Shown). u.report.replaced) earlier later

pub table_joined : (earlier later : List Shown)
    → table_of (earlier ++ later) ≡ fold with_replaced (table_of earlier) (replaced_by later)
table_joined earlier later =
    ap (fold with_replaced []) (replaced_joined earlier later)
    ∙ fold-append with_replaced [] (replaced_by earlier) (replaced_by later)

-- homes that are apart from those of each of some updates are apart from all of theirs
apart_from_all : (update : Update) (later : List Shown) (kept : List Kept) → length kept ≡ length later
    → All (HasOtherHomes update) (live_updates later kept)
    → All (λ (one : Replaced). All (λ (other : Replaced). one.home ≢ other.home) (replaced_by later))
    update.report.replaced
apart_from_all update [] [] paired apart = λ i d l j e m. absurd (omega arith)
apart_from_all update [] (one ∷ kept) paired apart = absurd (omega arith)
apart_from_all update (next ∷ later) [] paired apart = absurd (omega arith)
apart_from_all update (next ∷ later) (one ∷ kept) paired apart =
    let here = All-head (HasOtherHomes update) (live_update next one) (live_updates later kept) apart in
    let rest = apart_from_all update later kept (omega arith)
    (All-tail (HasOtherHomes update) (live_update next one) (live_updates later kept) apart) in
    λ i d l. All-append (λ (other : Replaced). (get_or update.report.replaced i d).home ≢ other.home)
    next.report.replaced (replaced_by later) (here i d l) (rest i d l)

pub table_without : (earlier : List Shown) (update : Shown) (later : List Shown) (one : Kept) (kept : List Kept)
    → length kept ≡ length later → All (HasOtherHomes (live_update update one)) (live_updates later kept)
    → AllPairs (λ (a b : Replaced). a.home ≢ b.home) update.report.replaced
    → table_of (earlier ++ later) ≡ fold without_base (table_of (earlier ++ update ∷ later)) update.report.replaced
table_without earlier update later one kept paired apart once =
    let own = update.report.replaced in
    let before = table_of earlier in
    let is = table_stays [] (replaced_by earlier) first_table in
    table_joined earlier later
    ∙ ap (λ (t : List Row). fold with_replaced t (replaced_by later)) (sym (table_back before own is once))
    ∙ sym (replaced_past (fold with_replaced before own) (replaced_by later) own
    (apart_from_all (live_update update one) later kept paired apart))
    ∙ ap (λ (t : List Row). fold without_base t own)
    (sym (table_joined earlier (update ∷ later) ∙ fold-append with_replaced before own (replaced_by later)))

-- what the items before one come to, with its own, is part of what all come to
pub part_of_all : {X Y : Type 0} (f : X → List Y) (xs : List X) (i : ℕ) (x : X) → i < length xs → x ≡ get_or xs i x
    → length (flat_map f (take i xs)) + length (f x) ≤ length (flat_map f xs)
part_of_all f [] i x less at = absurd (omega arith)
part_of_all {X} f (y ∷ ys) zero x less at =
    let same : length (f x) ≡ length (f y) = ap (λ (z : X). length (f z)) at in
    omega (arith, same, length-append (f y) (flat_map f ys))
part_of_all f (y ∷ ys) (suc i) x less at =
    let rest = part_of_all f ys i x (omega arith) at in
    omega (arith, rest, length-append (f y) (flat_map f ys), length-append (f y) (flat_map f (take i ys)))
