-- What an event takes back: a live update that no later one covers.
use Rattle.std.proofs.Common.{◌≡◌, List, [], ◌∷◌, ◌++◌, Option, Some, None, Result, Ok, Err, refl, sym, ◌∙◌, ap, ℕ}
use Rattle.std.proofs.Common.{subst}
use Rattle.std.specs.List.{find}
use Rattle.ks_base.specs.declared.refusals.Refusal.{Refusal}
use Rattle.ks_base.specs.declared.refusals.Refusal.TheVariants.{NothingApplied, NoUpdate}
use Rattle.i386_reloc.specs.Below.{first_of}
use Rattle.image_file.specs.Fields.{◌>>=◌}
use Rattle.stack_scan.specs.Standing.{thread_refusal}
use Rattle.update_plan.specs.Plan.{unless}
use Rattle.update_stack.specs.AbstractMachine.{AbstractMachine, Update}
use Rattle.update_stack.specs.Apply.{has_name}
use Rattle.update_stack.specs.Undo.{without_last, withdrawn, ranges_in, newest_update, named, cover_refusal}
use Rattle.update_stack.specs.Undo.{need_refusal, taken_back, undone_by, undone, undone_named}
use Rattle.update_stack.specs.Events.{Event, Spawn, Step, Apply, Hooks, Undo, UndoNamed, Undone, Happened, happened}
use Rattle.update_stack.specs.Events.{undo_answered, answered, update_taken}
use Rattle.update_stack.specs.Stacked.{IsBuilt}
use Rattle.update_stack.specs.Uncovered.{IsUncovered}
use Rattle.update_stack.proofs.PlaceLaws.{own_name, last_parted}
use Rattle.update_stack.proofs.SiftLaws.{first_parts, found_first}
use Rattle.update_stack.proofs.ThereLaws.{built_names, listed_among}

-- an update is the one of its name, wherever it stands among the live ones
pub listed_live : (k : AbstractMachine) → IsBuilt k → (update : Update) (earlier later : List Update)
    → k.updates ≡ earlier ++ update ∷ later → named k update.name ≡ Some update
listed_live k built update earlier later parts =
    ap (find (has_name update.name)) parts
    ∙ found_first (has_name update.name) earlier update later
    (listed_among k.updates update earlier later (built_names k built) parts).new (own_name update.name)

-- so is the newest
pub newest_live : (k : AbstractMachine) → IsBuilt k → (update : Update) → newest_update k ≡ Some update
    → named k update.name ≡ Some update
newest_live k built update is =
    listed_live k built update (without_last 1 k.updates) [] (last_parted k.updates update is)

-- and one that is found by a name
pub named_live : (k : AbstractMachine) → IsBuilt k → (name : List ℕ) (update : Update) → named k name ≡ Some update
    → named k update.name ≡ Some update
named_live k built name update is =
    let first = first_parts (has_name name) k.updates update is in
    listed_live k built update first.before first.after first.parts

-- What is so where an event that takes an update back is refused, and of the machine without each update that it may
-- take back, is so of what it answers. (Which update it takes back, if it is accepted, is told by its name or by its
-- place: see `update_taken`.)
module _ (k : AbstractMachine) (built : IsBuilt k) (taken : Option Update)
    (live : (update : Update) → taken ≡ Some update → named k update.name ≡ Some update)
    (Q : Result Happened Refusal → Type 0) (refused : (refusal : Refusal) → Q (Err refusal))
    (leaves : (update : Update) → taken ≡ Some update → IsUncovered k update
    → Q (Ok (happened (withdrawn k update) (Undone update.name)))) where
  by_refusals : (update : Update) (cover others : Option Refusal) → taken ≡ Some update → cover_refusal k update ≡ cover
      → Q (undo_answered (unless (first_of cover others) update >>= λ (clear : Update).
      let r : Result (AbstractMachine × List ℕ) Refusal = Ok (withdrawn k clear, clear.name) in r))
  by_refusals update (Some refusal) others is cover = refused refusal
  by_refusals update None (Some refusal) is cover = refused refusal
  by_refusals update None None is cover =
      leaves update is (record { built = built; live = live update is; uncovered = cover })

  by_update : (missing : Refusal) (o : Option Update) → taken ≡ o → Q (undo_answered (undone_by k missing o))
  unfolding taken_back
  by_update missing None is = refused missing
  by_update missing (Some update) is =
      by_refusals update (cover_refusal k update)
      (first_of (need_refusal k update) (thread_refusal k.pieces (ranges_in k update) k.threads)) is refl

  -- so it is of what is answered where the one is taken back that is found, if there is one
  pub undone_leaves : (missing : Refusal) → Q (undo_answered (undone_by k missing taken))
  undone_leaves missing = by_update missing taken refl

-- What an accepted event takes back: no later update covers it, and the machine is then without it.
pub record IsTaken (k : AbstractMachine) (update : Update) (now : Happened) : Type 0 where
  pub uncovered : IsUncovered k update
  pub machine : now.machine ≡ withdrawn k update
  pub answer : now.answer ≡ Undone update.name

taken_by : (k : AbstractMachine) → IsBuilt k → (taken : Option Update)
    → ((one : Update) → taken ≡ Some one → named k one.name ≡ Some one) → (missing : Refusal) (update : Update)
    (now : Happened) → taken ≡ Some update → undo_answered (undone_by k missing taken) ≡ Ok now → IsTaken k update now
taken_by k built taken live missing update now takes accepted =
    undone_leaves k built taken live Q (λ refusal is. absurd (cc)) leaves missing accepted
  where
    Q : Result Happened Refusal → Type 0
    Q result = result ≡ Ok now → IsTaken k update now

    leaves : (one : Update) → taken ≡ Some one → IsUncovered k one
        → Q (Ok (happened (withdrawn k one) (Undone one.name)))
    leaves one is uncovered answer =
        let same : one ≡ update = cc in
        let all : happened (withdrawn k one) (Undone one.name) ≡ now = cc in
        subst (λ (u : Update). IsTaken k u now) same
        (record {
          uncovered = uncovered;
          machine = sym (ap (λ (h : Happened). h.machine) all);
          answer = sym (ap (λ (h : Happened). h.answer) all);
        })

-- so it is of each event that takes one back
pub event_takes : (k : AbstractMachine) → IsBuilt k → (event : Event) (update : Update) (now : Happened)
    → update_taken k event ≡ Some update → answered k event ≡ Ok now → IsTaken k update now
unfolding answered undone undone_named
event_takes k built Undo update now takes is =
    taken_by k built (newest_update k) (newest_live k built) NothingApplied update now takes is
event_takes k built (UndoNamed name) update now takes is =
    taken_by k built (named k name) (named_live k built name) (NoUpdate name) update now takes is
event_takes k built (Spawn name argument) update now takes is = absurd (cc)
event_takes k built (Step n) update now takes is = absurd (cc)
event_takes k built (Apply name pre post) update now takes is = absurd (cc)
event_takes k built (Hooks name pre post) update now takes is = absurd (cc)
