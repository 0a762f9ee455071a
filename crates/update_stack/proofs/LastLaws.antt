-- Lists that end with one item more.
use Rattle.std.proofs.Common.{◌≡◌, ℕ, ◌-◌, List, [], ◌∷◌, ◌++◌, take, length, Some, None}
use Rattle.std.proofs.Common.{refl, sym, ◌∙◌, ap, arith}
use Rattle.std.specs.List.{last_or, fold, flat_map}
use Rattle.std.proofs.lemmas.List.{length-append, append_assoc, append-nil}
use Rattle.image_memory.specs.declared.types.Piece.{Piece}
use Rattle.splice_jump.specs.Jumps.{unjumped}
use Rattle.update_memory.specs.Rows.{olds_of}
use Rattle.update_stack.specs.declared.updates.Update.{Update as Shown}
use Rattle.update_stack.specs.declared.updates.Kept.{Kept}
use Rattle.update_stack.specs.AbstractMachine.{Update, with_replaced}
use Rattle.update_stack.specs.Undo.{without_last}
use Rattle.update_stack.specs.Systems.{text_of, replaced_by, table_of, live_update, live_updates}
use Rattle.update_stack.specs.laws.StackedLaws.{last_more as last_from}

pub last_more : {X : Type 0} (xs : List X) (x : X) → last_or None (xs ++ x ∷ []) ≡ Some x
last_more xs x = last_from None xs x

-- the items before it
take_front : {X : Type 0} (xs ys : List X) → take (length xs) (xs ++ ys) ≡ xs
take_front [] [] = refl
take_front [] (y ∷ ys) = refl
take_front {X} (x ∷ xs) ys = ap (λ (zs : List X). x ∷ zs) (take_front xs ys)

pub without_more : {X : Type 0} (xs ys : List X) → without_last (length ys) (xs ++ ys) ≡ xs
without_more {X} xs ys =
    let long : length (xs ++ ys) - length ys ≡ length xs = omega (arith, length-append xs ys) in
    ap (λ (n : ℕ). take n (xs ++ ys)) long ∙ take_front xs ys

pub fold_more : {X Y : Type 0} (f : Y → X → Y) (y : Y) (xs more : List X)
    → fold f y (xs ++ more) ≡ fold f (fold f y xs) more
fold_more f y [] more = refl
fold_more f y (x ∷ xs) more = fold_more f (f y x) xs more

pub flat_more : {X Y : Type 0} (f : X → List Y) (xs : List X) (x : X) → flat_map f (xs ++ x ∷ []) ≡ flat_map f xs ++ f x
flat_more f [] x = append-nil (f x)
flat_more {X} {Y} f (y ∷ ys) x =
    ap (λ (zs : List Y). f y ++ zs) (flat_more f ys x) ∙ sym (append_assoc (f y) (flat_map f ys) (f x))

-- the text, the table and the live updates with one update more
pub text_more : (kept : List Kept) (one : Kept) (pieces : List Piece)
    → text_of (kept ++ one ∷ []) pieces ≡ text_of kept (unjumped (olds_of one.jumps) pieces)
text_more [] one pieces = refl
text_more (first ∷ kept) one pieces = ap (unjumped (olds_of first.jumps)) (text_more kept one pieces)

pub table_more : (updates : List Shown) (update : Shown)
    → table_of (updates ++ update ∷ []) ≡ fold with_replaced (table_of updates) update.report.replaced
table_more updates update =
    ap (fold with_replaced []) (flat_more (λ (one : Shown). one.report.replaced) updates update)
    ∙ fold_more with_replaced [] (replaced_by updates) update.report.replaced

pub live_more : (updates : List Shown) (update : Shown) (kept : List Kept) (one : Kept) → length kept ≡ length updates
    → live_updates (updates ++ update ∷ []) (kept ++ one ∷ [])
    ≡ live_updates updates kept ++ live_update update one ∷ []
live_more [] update [] one paired = refl
live_more [] update (first ∷ kept) one paired = absurd (omega arith)
live_more (shown ∷ updates) update [] one paired = absurd (omega arith)
live_more (shown ∷ updates) update (first ∷ kept) one paired =
    ap (λ (us : List Update). live_update shown first ∷ us) (live_more updates update kept one (omega arith))
