-- What an update at which functions were run leaves of threads, of windows and of the code that is retired.
use Rattle.std.proofs.Common.{◌≡◌, ℕ, List, Some, Result, Ok, Err, refl, sym, ◌∙◌, ap, subst}
use Rattle.ks_base.specs.declared.places.Range.{Range}
use Rattle.ks_base.specs.declared.refusals.Refusal.{Refusal}
use Rattle.ks_base.specs.declared.reports.HookReport.{HookReport}
use Rattle.ia32_step.specs.declared.types.Frame.{Frame}
use Rattle.ia32_step.specs.declared.types.Thread.{Thread}
use Rattle.image_threads.specs.Program.{running_at}
use Rattle.stack_scan.specs.Standing.{in_one}
use Rattle.update_stack.specs.AbstractMachine.{AbstractMachine, contents_of, view_in}
use Rattle.update_stack.specs.Hooks.{hooked}
use Rattle.update_stack.specs.Hooked.{with_scratch_of, IsHooked, HooksAreUpdates}
use Rattle.update_stack.specs.Events.{Apply, Hooks, Happened, Applied, Hooked, happened, apply_answered, hooks_answered}
use Rattle.update_stack.specs.Events.{answered}
use Rattle.update_stack.specs.Stacked.{IsBuilt}
use Rattle.update_stack.specs.laws.DataLaws.{DataLaws, data_moved, differs_back}
use Rattle.update_stack.specs.laws.StackedLaws.{built_sound}
use Rattle.update_safety.specs.Clear.{newest_retired, IsOutside, KeepSlots, AcceptedIsClear, HookedIsClear}
use Rattle.update_safety.specs.Slots.{SameThreads, UpdatesKeepThreads, HooksKeepThreads}
use Rattle.update_safety.specs.Windows.{window_in, SameWindows, KeepsWindows, UpdatesKeepWindows, HooksKeepWindows}
use Rattle.update_safety.proofs.ViewLaws.{text_written}
use Rattle.update_safety.proofs.WindowLaws.{SameText, same_windows}

-- an update at which functions were run, by what it answered
record WasHooked (k : AbstractMachine) (name pre post : List ℕ) (now : Happened) : Type 0 where
  done : HookReport
  is : IsHooked k now.machine name pre post done

was_hooked : HooksAreUpdates → (k : AbstractMachine) (name pre post : List ℕ) (now : Happened) → IsBuilt k
    → answered k (Hooks name pre post) ≡ Ok now → WasHooked k name pre post now
unfolding answered
was_hooked law k name pre post now built is = by_result (hooked k name pre post) refl is
  where
    by_result : (r : Result (AbstractMachine × HookReport) Refusal) → hooked k name pre post ≡ r
        → hooks_answered r ≡ Ok now → WasHooked k name pre post now
    by_result (Err refusal) here goes = absurd (cc)
    by_result (Ok left) here goes =
        let same : happened left.0 (Hooked left.1) ≡ now = cc in
        subst (WasHooked k name pre post) same
        (record { done = left.1; is = law k left.0 name pre post left.1 built here })

module _ (law : HooksAreUpdates) (k : AbstractMachine) (name pre post : List ℕ) (now : Happened) (built : IsBuilt k)
    (is : answered k (Hooks name pre post) ≡ Ok now) where
  abbrev was : WasHooked k name pre post now
  was = was_hooked law k name pre post now built is

  abbrev made : AbstractMachine
  made = was.is.made

  -- the same update without functions
  abbrev plain : Happened
  plain = happened made (Applied was.done.report)

  plain_is : answered k (Apply name pre post) ≡ Ok plain
  unfolding answered
  plain_is = ap apply_answered was.is.is_applied

  retired_same : newest_retired made ≡ newest_retired now.machine
  retired_same = sym (ap newest_retired was.is.differs.rest)

  pub hooked_clear : AcceptedIsClear → (number : ℕ) (thread : Thread) (frames : List Frame)
      → running_at k.threads number ≡ Some thread → KeepSlots k thread frames
      → IsOutside (newest_retired now.machine) thread frames
  hooked_clear clear number thread frames runs keeps =
      subst (λ (ranges : List Range). IsOutside ranges thread frames) retired_same
      (clear k name pre post plain number thread frames plain_is runs keeps)

  pub hooked_threads : UpdatesKeepThreads → SameThreads k now.machine
  hooked_threads kept =
      let same = kept k name pre post plain plain_is in
      record {
        threads = ap (λ (m : AbstractMachine). m.threads) was.is.differs.rest ∙ same.threads;
        stacks = ap (λ (m : AbstractMachine). m.stacks) was.is.differs.rest ∙ same.stacks;
      }

  -- text is where it was, whatever was written
  text_same : DataLaws → SameText made.pieces now.machine.pieces
  text_same alone =
      let m = with_scratch_of now.machine made in
      let back = differs_back m now.machine was.is.differs in
      let valid = alone.valid (contents_of now.machine) (contents_of m) (built_sound now.machine was.is.built).jumps.valid
      back.differ in
      data_moved alone (λ (x : AbstractMachine). SameText made.pieces x.pieces)
      (λ x start bytes valid same clear address. text_written start bytes x.pieces address ∙ same address)
      m now.machine valid was.is.differs (λ address. refl)

  scratch_unseen : (address : ℕ) → window_in (with_scratch_of now.machine made) address ≡ window_in made address
  unfolding view_in
  scratch_unseen address = refl

  windows_same : DataLaws → SameWindows made now.machine
  windows_same alone address =
      let m = with_scratch_of now.machine made in
      ap (λ (x : AbstractMachine). window_in x address) was.is.differs.rest
      ∙ same_windows m now.machine.pieces m.threads (text_same alone) address
      ∙ scratch_unseen address

  pub hooked_windows : DataLaws → UpdatesKeepWindows → KeepsWindows (newest_retired now.machine) k now.machine
  hooked_windows alone kept address out was_there =
      windows_same alone address
      ∙ kept k name pre post plain built plain_is address
      (ap (λ (ranges : List Range). in_one ranges address) retired_same ∙ out) was_there

pub hooked_is_clear : HooksAreUpdates → AcceptedIsClear → HookedIsClear
hooked_is_clear law clear k name pre post now number thread frames built is runs keeps =
    hooked_clear law k name pre post now built is clear number thread frames runs keeps

pub hooks_keep_threads : HooksAreUpdates → UpdatesKeepThreads → HooksKeepThreads
hooks_keep_threads law kept k name pre post now built is = hooked_threads law k name pre post now built is kept

pub hooks_keep_windows : HooksAreUpdates → DataLaws → UpdatesKeepWindows → HooksKeepWindows
hooks_keep_windows law alone kept k name pre post now built is =
    hooked_windows law k name pre post now built is alone kept
