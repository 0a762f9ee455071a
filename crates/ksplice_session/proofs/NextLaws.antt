-- What each event leaves of a moment at which no rule was broken, by what the machine answers.
use Rattle.std.proofs.Common.{◌≡◌, ℕ, not, List}
use Rattle.std.proofs.Common.{length, set, Option, Some, None, Result, Ok, Err, refl, sym, ◌∙◌, ap, subst}
use Rattle.std.specs.List.{slice_get}
use Rattle.ks_base.specs.declared.refusals.Refusal.{Refusal}
use Rattle.ia32_step.specs.declared.types.Thread.{Thread}
use Rattle.ia32_step.specs.declared.types.Outcome.{Outcome}
use Rattle.image_threads.specs.Program.{running_at}
use Rattle.image_threads.specs.Spawning.{is_taken, first_thread}
use Rattle.update_stack.specs.AbstractMachine.{AbstractMachine}
use Rattle.update_stack.specs.Steps.{step_in}
use Rattle.update_stack.specs.Events.{Event, Spawn, Step, Apply, Hooks, Undo, UndoNamed, Answer, Spawned, Stepped}
use Rattle.update_stack.specs.Events.{Applied, Hooked, Undone, Happened, happened}
use Rattle.update_stack.specs.Events.{answered}
use Rattle.update_stack.specs.Stacked.{IsBuilt}
use Rattle.update_stack.specs.Undo.{ranges_in}
use Rattle.update_safety.specs.Clear.{newest_retired}
use Rattle.frame_watch.specs.declared.types.Verdict.TheVariants.{Disciplined}
use Rattle.frame_watch.specs.Frames.{Watching}
use Rattle.frame_watch.specs.Discipline.{spawn_noted, step_noted, hooks_noted, counted}
use Rattle.ksplice_session.proofs.WatchedLaws.{watched}
use Rattle.ksplice_session.specs.Watching.{Watched, sight_in, start_seen, step_seen, seen, watched_by, watched_after}
use Rattle.ksplice_session.specs.Safety.{frames_of, outcome_in, outcome_by, step_outcome}
use Rattle.ksplice_session.proofs.Lookups.{set_here, read_last, found_at}
use Rattle.ksplice_session.proofs.RuleLaws.{hooks_go_on, start_was_unbroken, step_was_unbroken, hooks_was_unbroken}
use Rattle.ksplice_session.proofs.EventAnswers.{running_is, left_thread, step_gives, step_refused}
use Rattle.ksplice_session.proofs.EventAnswers.{spawn_gives, apply_gives, hooks_seen}
use Rattle.ksplice_session.proofs.EventAnswers.{IsUndone, undo_gives, undo_named_gives}
use Rattle.ksplice_session.proofs.MomentLaws.{Premises, IsMoment, keep_slots}
use Rattle.ksplice_session.proofs.EventLaws.{Next, refused_next, ranges_next, update_next, start_next}
use Rattle.ksplice_session.proofs.ThreadSteps.{IsStep, step_next}

module _ (laws : Premises) (s : Watched) (moment : IsMoment s) (built : IsBuilt s.machine) where
  -- what an event leaves, by its answer
  abbrev Leaves : Event → Result Happened Refusal → Type 0
  Leaves event result =
      answered s.machine event ≡ result → IsBuilt (watched_by s event result).machine
      → (watched_by s event result).watch.verdict ≡ Disciplined → Next s event (watched_by s event result)

  start_leaves : (name : List ℕ) (argument : ℕ) (result : Result Happened Refusal) → Leaves (Spawn name argument) result
  start_leaves name argument (Err refusal) is later unbroken =
      refused_next s (Spawn name argument) moment (λ n steps. absurd (cc))
  start_leaves name argument (Ok now) is later unbroken =
      let event = Spawn name argument in
      let gives = spawn_gives s.machine name argument now is in
      let thread = first_thread (length s.machine.threads) gives.stack gives.pc in
      let at : slice_get now.machine.threads (length s.machine.threads) ≡ Some thread =
      ap (λ (k : AbstractMachine). slice_get k.threads (length s.machine.threads)) gives.machine
      ∙ read_last s.machine.threads thread in
      let same : seen s.machine event now.machine now.answer s.watch
      ≡ spawn_noted (sight_in now.machine) thread s.watch =
      ap (λ (a : Answer). seen s.machine event now.machine a s.watch) gives.answer
      ∙ ap (λ (o : Option Thread). start_seen (sight_in now.machine) o s.watch) at in
      subst (λ (w : Watching). Next s event (watched s now.machine w)) (sym same)
      (start_next s event moment now.machine thread (ap (λ (k : AbstractMachine). k.threads) gives.machine)
      (ap (λ (k : AbstractMachine). k.stacks) gives.machine) refl refl
      (found_at (λ range. not (is_taken s.machine.threads range)) s.machine.stacks gives.stack gives.free)
      (laws.starts s.machine name argument now is) (λ n steps. absurd (cc))
      (subst (λ (w : Watching). w.verdict ≡ Disciplined) same unbroken))

  step_leaves : (n : ℕ) (result : Result Happened Refusal) → Leaves (Step n) result
  step_leaves n (Err refusal) is later unbroken =
      refused_next s (Step n) moment (λ m steps.
      subst (λ (i : ℕ). running_at s.machine.threads i ≡ None) (same_step m steps)
      (step_refused s.machine n refusal is))
    where
      stepped_in : Event → ℕ
      stepped_in (Step i) = i
      stepped_in other = 0

      same_step : (m : ℕ) → Step n ≡ Step m → n ≡ m
      same_step m steps = ap stepped_in steps
  step_leaves n (Ok now) is later unbroken =
      let gives = step_gives s.machine n now is in
      let left = step_in s.machine gives.before in
      let here = running_is (slice_get s.machine.threads n) gives.before gives.running in
      let threads : now.machine.threads ≡ set s.machine.threads n left.thread =
      ap (λ (k : AbstractMachine). k.threads) gives.machine in
      let placed : slice_get now.machine.threads n ≡ Some left.thread =
      ap (λ (ts : List Thread). slice_get ts n) threads
      ∙ set_here s.machine.threads n left.thread gives.before here.0 in
      let same : seen s.machine (Step n) now.machine now.answer s.watch
      ≡ step_noted (sight_in now.machine) gives.before left.thread left.outcome s.watch =
      ap (λ (a : Answer). seen s.machine (Step n) now.machine a s.watch) gives.answer
      ∙ ap (λ (o : Option Thread).
      step_seen (sight_in now.machine) o (slice_get now.machine.threads n) left.outcome s.watch) here.0
      ∙ ap (λ (o : Option Thread). step_seen (sight_in now.machine) (Some gives.before) o left.outcome s.watch)
      placed in
      let kept = left_thread s.machine gives.before here.1 in
      let number : n ≡ left.thread.number =
      sym (moment.numbered n gives.before here.0) ∙ sym kept.number in
      let step : IsStep s (Step n) gives.before left.thread left.outcome now.machine = record {
        steps = ap Step number;
        running = subst (λ (i : ℕ). running_at s.machine.threads i ≡ Some gives.before) number gives.running;
        threads = subst (λ (i : ℕ). now.machine.threads ≡ set s.machine.threads i left.thread) number threads;
        stacks = ap (λ (k : AbstractMachine). k.stacks) gives.machine;
        number = kept.number;
        stack = kept.stack;
        state = kept.state;
        comes = subst (λ (i : ℕ). step_outcome s i ≡ Some left.outcome) number
            (ap outcome_by is ∙ ap outcome_in gives.answer);
        windows = laws.steps s.machine n now is;
      } in
      subst (λ (w : Watching). Next s (Step n) (watched s now.machine w)) (sym same)
      (step_next s (Step n) moment gives.before left.thread left.outcome now.machine step
      (subst (λ (w : Watching). w.verdict ≡ Disciplined) same unbroken))

  apply_leaves : (name pre post : List ℕ) (result : Result Happened Refusal) → Leaves (Apply name pre post) result
  apply_leaves name pre post (Err refusal) is later unbroken =
      refused_next s (Apply name pre post) moment (λ n steps. absurd (cc))
  apply_leaves name pre post (Ok now) is later unbroken =
      let event = Apply name pre post in
      let gives = apply_gives s.machine name pre post now is in
      let same = gives.seen event s.watch in
      subst (λ (w : Watching). Next s event (watched s now.machine w)) (sym same)
      (update_next s event moment now.machine (newest_retired now.machine) (counted s.watch) gives.threads gives.stacks
      refl refl (laws.update_slots s.machine name pre post now built later is)
      (laws.updates s.machine name pre post now built is)
      (λ n thread runs.
      laws.accepted s.machine name pre post now n thread (frames_of s n) is runs (keep_slots s moment n thread runs))
      (λ n steps. absurd (cc)))

  -- an update at which functions were run: the slots were looked at then
  hooks_leaves : (name pre post : List ℕ) (result : Result Happened Refusal) → Leaves (Hooks name pre post) result
  hooks_leaves name pre post (Err refusal) is later unbroken =
      refused_next s (Hooks name pre post) moment (λ n steps. absurd (cc))
  hooks_leaves name pre post (Ok now) is later unbroken =
      let event = Hooks name pre post in
      let same = hooks_seen s.machine name pre post now is event s.watch in
      let well : (hooks_noted (sight_in now.machine) s.watch).verdict ≡ Disciplined =
      subst (λ (w : Watching). w.verdict ≡ Disciplined) same unbroken in
      let goes = hooks_go_on (sight_in now.machine) s.watch moment.unbroken well in
      let kept = laws.hook_threads s.machine name pre post now built is in
      subst (λ (w : Watching). Next s event (watched s now.machine w)) (sym same)
      (ranges_next s event moment now.machine (newest_retired now.machine) (hooks_noted (sight_in now.machine) s.watch)
      kept.threads kept.stacks goes.kept well goes.slots (laws.hooks s.machine name pre post now built is)
      (λ n thread runs.
      laws.hooked s.machine name pre post now n thread (frames_of s n) built is runs
      (keep_slots s moment n thread runs))
      (λ n steps. absurd (cc)))

  -- an event that takes an update back
  undo_leaves : (event : Event) → ((n : ℕ) → event ≡ Step n → ⊥)
      → ((now : Happened) → answered s.machine event ≡ Ok now → IsUndone s.machine event now)
      → (result : Result Happened Refusal) → Leaves event result
  undo_leaves event other gives (Err refusal) is later unbroken =
      refused_next s event moment (λ n steps. absurd (other n steps))
  undo_leaves event other gives (Ok now) is later unbroken =
      let undone = gives now is in
      let update = undone.update in
      let left = undone.left in
      let same = left.seen event s.watch in
      subst (λ (w : Watching). Next s event (watched s now.machine w)) (sym same)
      (update_next s event moment now.machine (ranges_in s.machine update) (counted s.watch) left.threads left.stacks
      refl refl (laws.undo_slots s.machine event update now built later undone.taken is)
      (laws.undos s.machine event update now built undone.taken is)
      (λ n thread runs.
      laws.taken_back s.machine event update now n thread (frames_of s n) undone.taken is runs
      (keep_slots s moment n thread runs))
      (λ n steps. absurd (other n steps)))

  leaves : (event : Event) (result : Result Happened Refusal) → Leaves event result
  leaves (Spawn name argument) result = start_leaves name argument result
  leaves (Step n) result = step_leaves n result
  leaves (Apply name pre post) result = apply_leaves name pre post result
  leaves (Hooks name pre post) result = hooks_leaves name pre post result
  leaves Undo result = undo_leaves Undo (λ n steps. absurd (cc)) (undo_gives s.machine) result
  leaves (UndoNamed name) result =
      undo_leaves (UndoNamed name) (λ n steps. absurd (cc)) (undo_named_gives s.machine name) result

  pub next : (event : Event) → IsBuilt (watched_after s event).machine
      → (watched_after s event).watch.verdict ≡ Disciplined → Next s event (watched_after s event)
  unfolding watched_after
  next event later unbroken = leaves event (answered s.machine event) refl later unbroken

-- where no rule was broken after an event, none was before it
pub was_unbroken : (s : Watched) (event : Event) → (watched_after s event).watch.verdict ≡ Disciplined
    → s.watch.verdict ≡ Disciplined
unfolding watched_after
was_unbroken s event now = by_result (answered s.machine event) now
  where
    by_start : (k : AbstractMachine) (o : Option Thread) → (start_seen (sight_in k) o s.watch).verdict ≡ Disciplined
        → s.watch.verdict ≡ Disciplined
    by_start k None now = now
    by_start k (Some thread) now = start_was_unbroken (sight_in k) thread s.watch now

    by_step : (k : AbstractMachine) (before after : Option Thread) (outcome : Outcome)
        → (step_seen (sight_in k) before after outcome s.watch).verdict ≡ Disciplined → s.watch.verdict ≡ Disciplined
    by_step k None after outcome now = now
    by_step k (Some before) None outcome now = now
    by_step k (Some before) (Some after) outcome now =
        step_was_unbroken (sight_in k) before after outcome s.watch now

    by_answer : (k : AbstractMachine) (answer : Answer) → (seen s.machine event k answer s.watch).verdict ≡ Disciplined
        → s.watch.verdict ≡ Disciplined
    by_answer k (Spawned n) now = by_start k (slice_get k.threads n) now
    by_answer k (Stepped outcome) now = by_step k _ _ outcome now
    by_answer k (Applied report) now = now
    by_answer k (Hooked done) now = hooks_was_unbroken (sight_in k) s.watch now
    by_answer k (Undone name) now = now

    by_result : (result : Result Happened Refusal) → (watched_by s event result).watch.verdict ≡ Disciplined
        → s.watch.verdict ≡ Disciplined
    by_result (Err refusal) now = now
    by_result (Ok happened) now = by_answer happened.machine happened.answer now
