-- An event that takes an update back, the newest or one that is named: what it passed, the machine that it leaves, and
-- that no later update covers the one that goes.
use Rattle.std.proofs.Common.{◌≡◌, ◌-◌, Bool, true, false, List, [], ◌∷◌, length, take, Option, Some, None}
use Rattle.std.proofs.Common.{Result, Ok, ℕ, suc, refl, sym, ◌∙◌, ap, arith}
use Rattle.std.specs.List.{find, last_or, list_any}
use Rattle.std.proofs.lemmas.Bool.{or_parts}
use Rattle.std.proofs.lemmas.Slice.Eq.{bytes_eq-Decides}
use Rattle.ks_base.specs.declared.refusals.Refusal.{Refusal}
use Rattle.ks_base.specs.declared.refusals.Refusal.TheVariants.{NothingApplied, NoUpdate}
use Rattle.i386_reloc.specs.Below.{first_of}
use Rattle.image_file.specs.Fields.{◌>>=◌}
use Rattle.image_memory.specs.laws.RangeLaws.{found}
use Rattle.stack_scan.specs.Standing.{thread_refusal}
use Rattle.update_plan.specs.Plan.{unless}
use Rattle.update_stack.specs.AbstractMachine.{AbstractMachine, Update}
use Rattle.update_stack.specs.Apply.{has_name}
use Rattle.update_stack.specs.Undo.{without_last, withdrawn, ranges_in, newest_update, named, cover_refusal}
use Rattle.update_stack.specs.Undo.{need_refusal, withdrawal_refusal, taken_back, undone_by, undone, undone_named}
use Rattle.update_stack.specs.Events.{Event, Spawn, Step, Apply, Hooks, Undo, UndoNamed, Happened, undo_answered}
use Rattle.update_stack.specs.Events.{answered, update_taken}
use Rattle.update_stack.specs.Stacked.{IsBuilt}
use Rattle.update_stack.specs.Uncovered.{IsUncovered}
use Rattle.update_stack.specs.laws.StackedLaws.{built_newest}

neither : {X : Type 0} (a b : Option X) → first_of a b ≡ None → (a ≡ None) × (b ≡ None)
neither None b none = (refl, none)
neither (Some x) b none = absurd (cc)

-- Of an update that was taken back: no later one covers it, no thread stands in its pieces, and the machine afterwards
-- is the one without it.
pub record WasTaken (k : AbstractMachine) (update : Update) (now : Happened) : Type 0 where
  pub uncovered : cover_refusal k update ≡ None
  pub clear : thread_refusal k.pieces (ranges_in k update) k.threads ≡ None
  pub left : withdrawn k update ≡ now.machine

accepted : (k : AbstractMachine) (update : Update) (now : Happened) → undo_answered (taken_back k update) ≡ Ok now
    → WasTaken k update now
unfolding taken_back
accepted k update now is = by_refusal (withdrawal_refusal k update) refl is
  where
    by_refusal : (o : Option Refusal) → withdrawal_refusal k update ≡ o
        → undo_answered (unless o update >>= λ (clear : Update).
        let r : Result (AbstractMachine × List ℕ) Refusal = Ok (withdrawn k clear, clear.name) in r) ≡ Ok now
        → WasTaken k update now
    by_refusal (Some refusal) stands is = absurd (cc)
    by_refusal None none is =
        let threads = thread_refusal k.pieces (ranges_in k update) k.threads in
        let first = neither (cover_refusal k update) (first_of (need_refusal k update) threads) none in
        let second = neither (need_refusal k update) threads first.1 in
        record { uncovered = first.0; clear = second.1; left = cc }

-- So it is of each event that takes an update back and is accepted.
pub was_taken : (k : AbstractMachine) (event : Event) (update : Update) (now : Happened)
    → update_taken k event ≡ Some update → answered k event ≡ Ok now → WasTaken k update now
unfolding answered undone undone_named
was_taken k (Spawn name argument) update now takes is = absurd (cc)
was_taken k (Step thread) update now takes is = absurd (cc)
was_taken k (Apply name pre post) update now takes is = absurd (cc)
was_taken k (Hooks name pre post) update now takes is = absurd (cc)
was_taken k Undo update now takes is =
    accepted k update now
    (ap (λ (o : Option Update). undo_answered (undone_by k NothingApplied o)) (sym takes) ∙ is)
was_taken k (UndoNamed name) update now takes is =
    accepted k update now
    (ap (λ (o : Option Update). undo_answered (undone_by k (NoUpdate name) o)) (sym takes) ∙ is)

-- the last of a list is found by a test that it passes, and none before it
found_last : {X : Type 0} (p : X → Bool) (xs : List X) (x : X) → last_or None xs ≡ Some x → p x ≡ true
    → list_any p (without_last 1 xs) ≡ false → find p xs ≡ Some x
found_last p [] x is passes none = absurd (cc)
found_last p (y ∷ []) x is passes none =
    let same : y ≡ x = cc in
    let here : p y ≡ true = ap p same ∙ passes in
    rw here is
found_last {X} p (y ∷ z ∷ zs) x is passes none =
    let shorter : length (y ∷ z ∷ zs) - 1 ≡ suc (length (z ∷ zs) - 1) = omega arith in
    let before = ap (λ (n : ℕ). list_any p (take n (y ∷ z ∷ zs))) (sym shorter) ∙ none in
    let parts = or_parts (p y) (list_any p (without_last 1 (z ∷ zs))) before in
    let other : p y ≡ false = parts.0 in
    rw other (found_last p (z ∷ zs) x is passes parts.1)

-- the newest update is that of its name, where no other has it
pub newest_named : (k : AbstractMachine) (update : Update) → newest_update k ≡ Some update
    → list_any (has_name update.name) (without_last 1 k.updates) ≡ false → named k update.name ≡ Some update
newest_named k update newest new =
    found_last (has_name update.name) k.updates update newest ((bytes_eq-Decides update.name update.name).1 refl) new

-- and so is the one that an event takes back
taken_named : (k : AbstractMachine) (event : Event) (update : Update) → IsBuilt k
    → update_taken k event ≡ Some update → named k update.name ≡ Some update
taken_named k (Spawn name argument) update built takes = absurd (cc)
taken_named k (Step thread) update built takes = absurd (cc)
taken_named k (Apply name pre post) update built takes = absurd (cc)
taken_named k (Hooks name pre post) update built takes = absurd (cc)
taken_named k Undo update built takes = newest_named k update takes (built_newest k update built takes).top.name
taken_named k (UndoNamed name) update built takes =
    let same : update.name ≡ name =
    (bytes_eq-Decides update.name name).0 (found (has_name name) k.updates update takes).passes in
    ap (named k) same ∙ takes

-- In a machine that is built, no later update covers the one that was taken back.
pub taken_uncovered : (k : AbstractMachine) (event : Event) (update : Update) (now : Happened) → IsBuilt k
    → update_taken k event ≡ Some update → answered k event ≡ Ok now → IsUncovered k update
taken_uncovered k event update now built takes is = record {
  built = built;
  live = taken_named k event update built takes;
  uncovered = (was_taken k event update now takes is).uncovered;
}
