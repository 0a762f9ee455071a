-- A step as a watch sees it.
use Rattle.std.proofs.Common.{◌≡◌, ℕ, ◌+◌, ◌^◌, ◌≤◌, ◌<◌, true, false, IsTrue, IsSomeAnd, List, length}
use Rattle.std.proofs.Common.{set, Option, Some, None, Ok, Err, refl, sym, ◌∙◌, ap, subst, arith, ◌⊎◌}
use Rattle.std.specs.List.{All, slice_get}
use Rattle.std.proofs.lemmas.Bool.Decides.{nat_tests}
use Rattle.std.proofs.lemmas.List.Elements.{All-weaker}
use Rattle.std.proofs.lemmas.Option.{same_Some}
use Rattle.ks_base.specs.declared.places.Range.{Range}
use Rattle.ks_base.specs.declared.refusals.Refusal.{Refusal}
use Rattle.image_memory.specs.declared.types.Piece.{Piece}
use Rattle.image_memory.specs.Ranges.{meets}
use Rattle.image_memory.specs.Contents.{Contents, ArePlaced}
use Rattle.ia32_decode.specs.declared.types.Decoded.{Decoded}
use Rattle.ia32_alu.specs.Widths.{byte_count}
use Rattle.ia32_step.specs.declared.types.Flow.TheVariants.{Call}
use Rattle.ia32_step.specs.declared.types.Frame.{Frame}
use Rattle.ia32_step.specs.declared.types.Outcome.{Outcome}
use Rattle.ia32_step.specs.declared.types.Outcome.TheVariants.{Moved}
use Rattle.ia32_step.specs.declared.types.Store.{Store}
use Rattle.ia32_step.specs.declared.types.Thread.{Thread}
use Rattle.ia32_step.specs.Frames.{instruction_at, IsCalled, is_slot, holds_dword}
use Rattle.ia32_step.specs.Operands.{spelled}
use Rattle.ia32_step.specs.Step.{Left, after_store, stepped, fetched_count}
use Rattle.ia32_step.specs.Threads.{esp_of}
use Rattle.ia32_step.specs.laws.OperandLaws.{length-spelled}
use Rattle.image_threads.specs.Program.{if_running, running_at, AreNumbered}
use Rattle.splice_jump.specs.declared.phase.Phase.{Phase}
use Rattle.update_stack.specs.AbstractMachine.{AbstractMachine, bodies_in, contents_of}
use Rattle.update_stack.specs.Events.{Step, Stepped, happened, step_answered, answered}
use Rattle.update_stack.specs.Jumps.{CanJump, StepsStand, jumped_left}
use Rattle.update_stack.specs.Stacked.{IsBuilt}
use Rattle.update_stack.specs.Phases.{patched_in, IsOpenAt}
use Rattle.update_stack.specs.StandsFor.{patched}
use Rattle.update_stack.specs.Steps.{step_in, after_step, moved_by, moved}
use Rattle.update_stack.specs.laws.StackedLaws.{built_sound}
use Rattle.update_safety.specs.Windows.{StepsKeepWindows, FetchedHaveWindows}
use Rattle.frame_watch.specs.Conditions.{HasPushed, IsStepOf, IsStep, touches, HoldBut, HaveWindows}
use Rattle.frame_watch.specs.Discipline.{sight_of, step_noted}
use Rattle.frame_watch.specs.Frames.{Watched as WatchedThread, Watching, without_thread, keeps_slots}
use Rattle.ksplice_session.proofs.WatchedLaws.{watched}
use Rattle.ksplice_session.specs.Watching.{Watched, sight_in, step_seen, watched_by, watched_after}
use Rattle.ksplice_session.specs.inside.InStep.{IsInStep}
use Rattle.ksplice_session.proofs.ByteLaws.{holds_same, alike_written}
use Rattle.ksplice_session.proofs.SightLaws.{step_alike}
use Rattle.ksplice_session.proofs.SeenLaws.{JumpLaws, phases_alike, phase_readable}
use Rattle.ksplice_session.proofs.StackLaws.{frames_hold}
use Rattle.ksplice_session.proofs.TestedLaws.{step_left}
use Rattle.ksplice_session.proofs.WatchLaws.{RunsIn, runs_in, slots_in, left_in_step, its_thread}
use Rattle.ksplice_session.proofs.WatchLaws.{running_got, numbered_at, without_runs, frames_run}
use Rattle.ksplice_session.proofs.EventAnswers.{running_is, runs_at, IsThread, left_thread, step_gives}
use Rattle.ksplice_session.proofs.Lookups.{set_here}

-- what other crates say of steps
pub record StepLaws : Type 0 where
  pub stand : (k : AbstractMachine) (thread : Thread) → CanJump k → StepsStand k thread
  pub calls : (contents : Contents) (thread : Thread)
      → length thread.registers ≡ 8 → (stepped contents thread).outcome ≡ Moved Call
      → IsSomeAnd (instruction_at contents thread.pc) (λ call. IsCalled thread call (stepped contents thread))
  pub falls : (thread : Thread) (call : Decoded) (after : Left)
      → IsCalled thread call after → ArePlaced after.contents.pieces
      → esp_of thread < 2 ^ 32 → esp_of after.thread + 4 ≡ esp_of thread

-- what a step wrote meets no slot outside it
outside : (a n slot x : ℕ) → meets (let r : Range = record { low = a; high = a + n } in r)
    (let r : Range = record { low = slot; high = slot + 4 } in r) ≡ false
    → slot ≤ x → x < slot + 4 → (x < a) ⊎ (a + n ≤ x)
outside a n slot x apart low high = grind (arith, nat_tests)

untouched : (contents : Contents) (store : Option Store) (slot value : ℕ) → touches store slot ≡ false
    → holds_dword (after_store contents store).pieces slot value ≡ holds_dword contents.pieces slot value
untouched contents None slot value apart = refl
untouched contents (Some s) slot value apart =
    holds_same (after_store contents (Some s)).pieces contents.pieces slot value (λ x low high.
    alike_written s.address (spelled s.width s.value) contents.pieces x
    (subst (λ (n : ℕ). (x < s.address) ⊎ (s.address + n ≤ x)) (sym (length-spelled s.width s.value))
    (outside s.address (byte_count s.width) slot x apart low high)))

-- what is known of a step that is noted, and what comes of it
pub record IsMade (memory : Contents) (k now : AbstractMachine)
    (w : Watching) (before after : Thread) (outcome : Outcome) (store : Option Store) : Type 0 where
  pub step : IsStep memory.pieces before after outcome w.threads
  pub held : HoldBut memory.pieces w.threads store
  pub same : step_noted (sight_of memory) before after outcome w ≡ step_noted (sight_in now) before after outcome w
  pub kept : IsInStep now (step_noted (sight_in now) before after outcome w)

module _
    (jumps : JumpLaws) (laws : StepLaws) (phase : Phase) (k : AbstractMachine) (w : Watching) (n : ℕ) (before : Thread)
    (built : IsBuilt k)
    (in_step : IsInStep k w) (numbered : AreNumbered 0 k.threads) (got : slice_get k.threads n ≡ Some before)
    (was : running_at k.threads n ≡ Some before)
    (registers : length before.registers ≡ 8) (esp : esp_of before < 2 ^ 32) where
  abbrev left : Left
  left = step_in k before

  abbrev now : AbstractMachine
  now = after_step k n left

  stands : stepped (patched k) before ≡ jumped_left (bodies_in k.table) left
  stands = laws.stand k before (built_sound k built).jumps

  kept : IsThread before left
  kept = left_thread k before (running_is (slice_get k.threads n) before was).1

  own : before.number ≡ n
  own = let is : before.number ≡ 0 + n = numbered_at 0 k.threads n before numbered got in omega (arith, is)

  pushed : IsBuilt now → left.outcome ≡ Moved Call → HasPushed (patched now).pieces before left.thread
  unfolding patched
  pushed built_now is =
      by (instruction_at (patched k) before.pc)
      (laws.calls (patched k) before registers (ap (λ (l : Left). l.outcome) stands ∙ is))
    where
      by : (o : Option Decoded) → IsSomeAnd o (λ call. IsCalled before call (stepped (patched k) before))
          → HasPushed (patched now).pieces before left.thread
      by None is = absurd is
      by (Some call) is =
          let called : IsCalled before call (jumped_left (bodies_in k.table) left) =
          subst (IsCalled before call) stands is in
          record {
            esp = laws.falls before call (jumped_left (bodies_in k.table) left) called
                (jumps.valid (contents_of now) (bodies_in k.table) (built_sound now built_now).jumps.valid).placed esp;
            readable = called.readable;
          }

  -- and it can be read in each phase
  pushed_in : IsBuilt now → IsOpenAt phase now → left.outcome ≡ Moved Call
      → HasPushed (patched_in phase now).pieces before left.thread
  pushed_in built_now opened is =
      let there = pushed built_now is in
      record {
        esp = there.esp;
        readable = phase_readable jumps now built_now phase (esp_of left.thread) opened there.readable;
      }

  is_step : IsBuilt now → IsOpenAt phase now
      → IsStep (patched_in phase now).pieces before left.thread left.outcome w.threads
  is_step built_now opened = record {
    number = kept.number;
    stepped = All-weaker (RunsIn k.threads) (λ watched. watched.thread ≡ before.number
        → IsStepOf (patched_in phase now).pieces before left.thread left.outcome watched)
        each w.threads (runs_in k w in_step);
  }
    where
      each : (watched : WatchedThread) → RunsIn k.threads watched
          → watched.thread ≡ before.number
          → IsStepOf (patched_in phase now).pieces before left.thread left.outcome watched
      each watched is of =
          let r = its_thread k.threads watched is in
          let same : before ≡ r.thread =
          running_got k.threads n before r.thread got (ap (running_at k.threads) (sym (of ∙ own)) ∙ r.found) in
          record {
            stack = r.same.stack ∙ ap (λ (t : Thread). t.stack) (sym same);
            esp = r.same.esp ∙ ap esp_of (sym same);
            pushed = pushed_in built_now opened;
          }

  is_held : IsBuilt now → IsOpenAt phase now → (store : Option Store)
      → now.pieces ≡ (after_store (contents_of k) store).pieces
      → HoldBut (patched_in phase now).pieces w.threads store
  is_held built_now opened store wrote =
      All-weaker (λ watched. IsTrue (keeps_slots k.pieces watched)) (λ watched. All (λ (frame : Frame).
      touches store frame.slot ≡ false → holds_dword (patched_in phase now).pieces frame.slot frame.address ≡ true)
      watched.frames)
      (λ watched keeps. All-weaker (λ (frame : Frame). (is_slot watched.stack watched.esp frame.slot ≡ true)
      × (holds_dword k.pieces frame.slot frame.address ≡ true))
      (λ (frame : Frame). touches store frame.slot ≡ false
      → holds_dword (patched_in phase now).pieces frame.slot frame.address ≡ true)
      (each watched.stack watched.esp) watched.frames (frames_hold k.pieces watched keeps)) w.threads
      (slots_in k w in_step)
    where
      each : (s : Range) (e : ℕ) (frame : Frame)
          → (is_slot s e frame.slot ≡ true) × (holds_dword k.pieces frame.slot frame.address ≡ true)
          → touches store frame.slot ≡ false → holds_dword (patched_in phase now).pieces frame.slot frame.address ≡ true
      each s e frame is apart =
          (phases_alike jumps now built_now phase opened).holds frame.slot frame.address
          ∙ ap (λ (pieces : List Piece). holds_dword pieces frame.slot frame.address) wrote
          ∙ untouched (contents_of k) store frame.slot frame.address apart ∙ is.1

  is_kept : IsInStep now (step_noted (sight_in now) before left.thread left.outcome w)
  is_kept =
      left_in_step now (step_noted (sight_in now) before left.thread left.outcome w)
      (step_left (RunsIn (set k.threads n left.thread)) (sight_in now) w in_step.stopped before left.thread left.outcome
      (λ frames moves. frames_run k.threads n before left.thread frames w.threads (runs_in k w in_step) was
      (runs_at (set k.threads n left.thread) n left.thread
      (set_here k.threads n left.thread before got) (kept.state ∙ moves))
      (kept.number ∙ own) kept.stack)
      (subst (λ (m : ℕ). All (RunsIn (set k.threads n left.thread)) (without_thread w.threads m))
      (sym (kept.number ∙ own))
      (without_runs k.threads n left.thread w.threads (runs_in k w in_step))))
      in_step.bare

  is_made : IsBuilt now → IsOpenAt phase now → (store : Option Store)
      → now.pieces ≡ (after_store (contents_of k) store).pieces
      → IsMade (patched_in phase now) k now w before left.thread left.outcome store
  is_made built_now opened store wrote = record {
    step = is_step built_now opened;
    held = is_held built_now opened store wrote;
    same = step_alike
        (sight_of (patched_in phase now)) (sight_in now) (phases_alike jumps now built_now phase opened)
        before left.thread left.outcome w
        (λ is. (pushed_in built_now opened is).readable);
    kept = is_kept;
  }

-- which thread it was that made a step, and what the step left
pub record IsOf (k now : AbstractMachine) (n : ℕ) (before : Thread) (outcome : Outcome) : Type 0 where
  pub was : running_at k.threads n ≡ Some before
  pub left : now ≡ after_step k n (step_in k before)
  pub came : outcome ≡ (step_in k before).outcome

step_of : (k now : AbstractMachine) (n : ℕ) (before : Thread) (outcome : Outcome) → slice_get k.threads n ≡ Some before
    → answered k (Step n) ≡ Ok (happened now (Stepped outcome)) → IsOf k now n before outcome
step_of k now n before outcome got is =
    let gives = step_gives k n (happened now (Stepped outcome)) is in
    let same : before ≡ gives.before = running_got k.threads n before gives.before got gives.running in
    let answer : Stepped outcome ≡ Stepped (step_in k gives.before).outcome = gives.answer in
    let came : outcome ≡ (step_in k gives.before).outcome = cc in
    record {
      was = gives.running ∙ ap (λ (x : Thread). Some x) (sym same);
      left = gives.machine ∙ ap (λ (x : Thread). after_step k n (step_in k x)) (sym same);
      came = came ∙ ap (λ (x : Thread). (step_in k x).outcome) (sym same);
    }

after_got : (k now : AbstractMachine) (n : ℕ) (before : Thread) (outcome : Outcome)
    → slice_get k.threads n ≡ Some before → IsOf k now n before outcome
    → slice_get now.threads n ≡ Some (step_in k before).thread
after_got k now n before outcome got of =
    ap (λ (m : AbstractMachine). slice_get m.threads n) of.left
    ∙ set_here k.threads n (step_in k before).thread before got

-- Where more than five bytes were fetched there is a window at each of them after the step, in memory with its jumps.
pub fetched_windows : JumpLaws → StepsKeepWindows
    → FetchedHaveWindows
    → (phase : Phase) (k now : AbstractMachine) (n : ℕ) (before : Thread) (outcome : Outcome) (count : ℕ)
    → IsBuilt k
    → IsBuilt now → IsOpenAt phase now → slice_get k.threads n ≡ Some before
    → answered k (Step n) ≡ Ok (happened now (Stepped outcome))
    → IsSomeAnd (running_at k.threads n) (λ running. count ≡ fetched_count (contents_of k) running)
    → 5 < count → HaveWindows (patched_in phase now) before.pc count
fetched_windows jumps stay fetched phase k now n before outcome count built built_now opened got is told many address
    from to =
    let of = step_of k now n before outcome got is in
    let same : count ≡ fetched_count (contents_of k) before =
    subst (λ (o : Option Thread). IsSomeAnd o (λ running. count ≡ fetched_count (contents_of k) running)) of.was told in
    (phases_alike jumps now built_now phase opened).windows address
    ∙ stay k n (happened now (Stepped outcome)) is address
    ∙ fetched k before address built (subst (λ (m : ℕ). 5 < m) same many) from
    (subst (λ (m : ℕ). address < before.pc + m) same to)

pub step_made : JumpLaws → StepLaws → (phase : Phase)
    → (k now : AbstractMachine) (w : Watching) (n : ℕ) (before after : Thread) (outcome : Outcome)
    (store : Option Store)
    (memory : Contents)
    → IsBuilt k → IsBuilt now → IsOpenAt phase now → IsInStep k w → AreNumbered 0 k.threads
    → slice_get k.threads n ≡ Some before
    → answered k (Step n) ≡ Ok (happened now (Stepped outcome)) → slice_get now.threads n ≡ Some after
    → length before.registers ≡ 8 → esp_of before < 2 ^ 32 → now.pieces ≡ (after_store (contents_of k) store).pieces
    → memory ≡ patched_in phase now → IsMade memory k now w before after outcome store
step_made jumps laws phase k now
    w n before after outcome store memory built built_now opened in_step numbered got is got_after registers esp wrote
    there =
    let of = step_of k now n before outcome got is in
    let left = step_in k before in
    let next = after_step k n left in
    let same : left.thread ≡ after =
    same_Some left.thread after (sym (after_got k now n before outcome got of) ∙ got_after) in
    subst (λ (m : Contents). IsMade m k now w before after outcome store) (sym there)
    (subst (λ (m : AbstractMachine). IsMade (patched_in phase m) k m w before after outcome store) (sym of.left)
    (subst (λ (o : Outcome). IsMade (patched_in phase next) k next w before after o store) (sym of.came)
    (subst (λ (t : Thread). IsMade (patched_in phase next) k next w before t left.outcome store) same
    (is_made jumps laws phase k w n before built in_step numbered got of.was registers esp
    (subst IsBuilt of.left built_now) (subst (IsOpenAt phase) of.left opened) store
    (ap (λ (m : AbstractMachine). m.pieces) (sym of.left) ∙ wrote)))))

-- a step that was made has its thread after it
pub after_there : (k now : AbstractMachine) (n : ℕ) (before : Thread) (outcome : Outcome)
    → slice_get k.threads n ≡ Some before
    → answered k (Step n) ≡ Ok (happened now (Stepped outcome)) → slice_get now.threads n ≡ None → ⊥
after_there k now n before outcome got is none =
    let there = after_got k now n before outcome got (step_of k now n before outcome got is) in cc

-- the session after a step
pub step_watched : (s : Watched) (now : AbstractMachine) (v : Watching) (n : ℕ) (before after : Thread)
    (outcome : Outcome)
    → answered s.machine (Step n) ≡ Ok (happened now (Stepped outcome)) → slice_get s.machine.threads n ≡ Some before
    → slice_get now.threads n ≡ Some after → v ≡ step_noted (sight_in now) before after outcome s.watch
    → watched s now v ≡ watched_after s (Step n)
unfolding watched_after
step_watched s now v n before after outcome is got got_after noted =
    ap (watched s now)
    (noted ∙ sym (ap (λ (o : Option Thread). step_seen (sight_in now) o (Some after) outcome s.watch) got)
    ∙ sym (ap
    (λ (o : Option Thread). step_seen (sight_in now) (slice_get s.machine.threads n) o outcome s.watch) got_after))
    ∙ sym (ap (watched_by s (Step n)) is)

-- where it is refused
pub step_refused : (s : Watched) (n : ℕ) (refusal : Refusal)
    → answered s.machine (Step n) ≡ Err refusal → s ≡ watched_after s (Step n)
unfolding watched_after
step_refused s n refusal is = sym (ap (watched_by s (Step n)) is)

pub step_missing : (s : Watched) (n : ℕ) → slice_get s.machine.threads n ≡ None → s ≡ watched_after s (Step n)
unfolding watched_after answered moved
step_missing s n none =
    sym (ap (λ (o : Option Thread). watched_by s (Step n) (step_answered (moved_by s.machine n (if_running o)))) none)
