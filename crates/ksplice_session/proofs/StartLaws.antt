-- The start of a thread as a watch sees it.
use Rattle.std.proofs.Common.{◌≡◌, ℕ, ◌+◌, ◌≤◌, ◌<◌, not, ◌&&◌, Bool, true, false, IsTrue, List, [], ◌∷◌, ◌++◌}
use Rattle.std.proofs.Common.{length, Option, Some, None, Ok, refl, sym, ◌∙◌, ap, subst, arith, ◌⊎◌, inl, inr}
use Rattle.std.specs.List.{All, Contains, slice_get}
use Rattle.std.proofs.lemmas.Bool.Decides.{nat_tests}
use Rattle.std.proofs.lemmas.Bool.{false≢true}
use Rattle.std.proofs.lemmas.List.Elements.{All-weaker, All-contains}
use Rattle.std.proofs.lemmas.List.Folds.{list_any_none}
use Rattle.std.proofs.lemmas.Option.{same_Some, slice_get_within}
use Rattle.ks_base.specs.declared.places.Range.{Range}
use Rattle.image_memory.specs.Ranges.{meets, are_same}
use Rattle.image_memory.specs.Access.{written}
use Rattle.image_memory.specs.Contents.{Contents}
use Rattle.image_file.specs.Rules.{own_range}
use Rattle.ia32_step.specs.declared.types.Frame.{Frame}
use Rattle.ia32_step.specs.declared.types.Thread.{Thread}
use Rattle.ia32_step.specs.Frames.{is_slot, holds_dword}
use Rattle.ia32_step.specs.Threads.{runs}
use Rattle.image_threads.specs.Program.{if_running, IsStackRange, WellPlaced}
use Rattle.image_threads.specs.Spawning.{is_taken, free_stack, first_top, first_bytes, first_thread}
use Rattle.image_threads.specs.laws.StackLaws.{length-first_bytes}
use Rattle.splice_jump.specs.declared.phase.Phase.{Phase}
use Rattle.update_stack.specs.AbstractMachine.{AbstractMachine}
use Rattle.update_stack.specs.Events.{Spawn, Spawned, happened, answered, machine_after, after_event, after_events}
use Rattle.update_stack.specs.Stacked.{IsBuilt}
use Rattle.update_stack.specs.Phases.{patched_in, IsOpenAt}
use Rattle.frame_watch.specs.Conditions.{IsStart, MayStart, touches, HoldBut}
use Rattle.frame_watch.specs.Discipline.{sight_of, spawn_noted}
use Rattle.frame_watch.specs.Frames.{Watched as WatchedThread, Watching, stack_of, started, is_of, keeps_slots}
use Rattle.ksplice_session.specs.Answers.{MadeFront, Unnoted}
use Rattle.ksplice_session.proofs.WatchedLaws.{watched}
use Rattle.ksplice_session.specs.Watching.{Watched, sight_in, start_seen, watched_by, watched_after, watched_after_all}
use Rattle.ksplice_session.specs.inside.InStep.{Runs, IsInStep}
use Rattle.ksplice_session.proofs.ByteLaws.{holds_same, alike_written}
use Rattle.ksplice_session.proofs.SightLaws.{spawn_alike}
use Rattle.ksplice_session.proofs.SeenLaws.{JumpLaws, phases_alike}
use Rattle.ksplice_session.proofs.StackLaws.{none_passes, slot_within, slots_stay, frames_hold, same_or_apart}
use Rattle.ksplice_session.proofs.TestedLaws.{spawn_left}
use Rattle.ksplice_session.proofs.WatchLaws.{RunsIn, runs_in, slots_in, left_in_step, its_thread}
use Rattle.ksplice_session.proofs.WatchLaws.{stack_listed, runs_as, runs_push, All-put_in}
use Rattle.ksplice_session.proofs.EventAnswers.{running_is, HasStarted, spawn_gives}
use Rattle.ksplice_session.proofs.Lookups.{All-at, is_contained, found_is, found_at, read_last}

first_slot : (stack : Range) → IsStackRange stack → is_slot stack (first_top stack) (first_top stack) ≡ true
unfolding is_slot
first_slot stack is =
    let low = is.low in
    let high = is.high in
    let tall = is.tall in
    grind (arith, nat_tests)

apart_stacks : (a b : Range) → ((a.high ≤ b.low) ⊎ (b.high ≤ a.low)) → meets a b ≡ false
apart_stacks a b apart = grind (arith, nat_tests)

apart_bytes : (a b : Range) (x : ℕ)
    → ((a.high ≤ b.low) ⊎ (b.high ≤ a.low)) → b.low ≤ x → x < b.high → (x < a.low) ⊎ (a.high ≤ x)
apart_bytes a b x apart low high = grind arith

-- a running thread with this stack
abbrev has_this : Range → Thread → Bool
has_this stack t = runs t && are_same t.stack stack

-- what is known of a start that is noted, and what comes of it, or where it isn't noted
pub record IsBegun (memory : Contents) (k now : AbstractMachine) (w : Watching) (thread : Thread) : Type 0 where
  pub start : MayStart w thread
  pub held : HoldBut memory.pieces w.threads None
  pub same : spawn_noted (sight_of memory) thread w ≡ spawn_noted (sight_in now) thread w
  pub kept : IsInStep now (spawn_noted (sight_in now) thread w)
  pub unnoted : IsInStep now w

module _ (jumps : JumpLaws) (phase : Phase) (k : AbstractMachine) (w : Watching) (stack : Range) (pc argument : ℕ)
    (in_step : IsInStep k w)
    (placed : WellPlaced k.stacks k.threads) (free : free_stack k.stacks k.threads ≡ Some stack) where
  abbrev thread : Thread
  thread = first_thread (length k.threads) stack pc

  abbrev now : AbstractMachine
  now =
      record k { pieces = written stack.low (first_bytes stack argument) k.pieces; threads = k.threads ++ thread ∷ [] }

  abbrev is_free : Range → Bool
  is_free range = not (is_taken k.threads range)

  listed : Contains k.stacks stack
  listed = is_contained k.stacks stack (found_at is_free k.stacks stack free)

  not_taken : is_taken k.threads stack ≡ false
  not_taken = by (is_taken k.threads stack) (found_is is_free k.stacks stack free)
    where
      by : (b : Bool) → not b ≡ true → b ≡ false
      by true is = cc
      by false is = refl

  bounds : IsStackRange stack
  bounds = All-contains IsStackRange k.stacks stack placed.bounds listed

  -- the stack of a watched thread isn't this one, and meets it nowhere
  apart : (watched : WatchedThread)
      → RunsIn k.threads watched → (stack.high ≤ watched.stack.low) ⊎ (watched.stack.high ≤ stack.low)
  apart watched is =
      let r = its_thread k.threads watched is in
      let other : has_this stack r.thread ≡ false =
      All-at (λ (t : Thread). has_this stack t ≡ false) k.threads watched.thread r.thread
      (none_passes (has_this stack) k.threads not_taken) r.got in
      elim (same_or_apart own_range k.stacks stack watched.stack placed.ascend listed
      (stack_listed k.stacks k.threads watched placed is)) [
        | inl same ↦
            let run = (running_is (slice_get k.threads watched.thread) r.thread r.found).1 in
            absurd (false≢true (sym other ∙ taken r.thread run (sym r.same.stack ∙ sym same)))
        | inr off ↦ off
      ]
    where
      same_self : (r : Range) → are_same r r ≡ true
      same_self r = grind (arith, nat_tests)

      taken : (t : Thread) → runs t ≡ true → t.stack ≡ stack → has_this stack t ≡ true
      taken t run same = ap (λ (b : Bool). b && are_same t.stack stack) run
          ∙ ap (λ (s : Range). are_same s stack) same ∙ same_self stack

  is_start : IsStart w.threads thread
  is_start = record {
    slot = first_slot stack bounds;
    unwatched = list_any_none (is_of (length k.threads)) w.threads
        (All-weaker (RunsIn k.threads)
        (λ watched. is_of (length k.threads) watched ≡ false) earlier w.threads (runs_in k w in_step));
    apart = list_any_none (λ watched. meets stack (stack_of watched)) w.threads
        (All-weaker (RunsIn k.threads) (λ watched. meets stack (stack_of watched) ≡ false)
        (λ watched is. apart_stacks stack watched.stack (apart watched is)) w.threads (runs_in k w in_step));
  }
    where
      earlier : (watched : WatchedThread) → RunsIn k.threads watched → is_of (length k.threads) watched ≡ false
      earlier watched is =
          let r = its_thread k.threads watched is in
          let less = slice_get_within k.threads watched.thread r.thread r.got in
          grind (arith, nat_tests)

  -- what the stack of a watched thread holds stays
  stays : (watched : WatchedThread)
      → RunsIn k.threads watched → (slot value : ℕ) → watched.stack.low ≤ slot → slot + 4 ≤ watched.stack.high
      → holds_dword now.pieces slot value ≡ holds_dword k.pieces slot value
  stays watched is slot value low high =
      let tall = bounds.tall in
      let long : stack.low + length (first_bytes stack argument) ≡ stack.high =
      length-first_bytes stack argument (omega arith) in
      holds_same now.pieces k.pieces slot value (λ x above below.
      alike_written stack.low (first_bytes stack argument) k.pieces x
      (subst (λ (n : ℕ). (x < stack.low) ⊎ (n ≤ x)) (sym long)
      (apart_bytes stack watched.stack x (apart watched is) (omega arith) (omega arith))))

  both : All (λ watched. RunsIn k.threads watched × IsTrue (keeps_slots k.pieces watched)) w.threads
  both i d less = (runs_in k w in_step i d less, slots_in k w in_step i d less)

  is_held : IsBuilt now → IsOpenAt phase now → HoldBut (patched_in phase now).pieces w.threads None
  is_held built_now opened =
      All-weaker (λ watched. RunsIn k.threads watched × IsTrue (keeps_slots k.pieces watched))
      (λ watched. All (λ (frame : Frame).
      touches None frame.slot ≡ false → holds_dword (patched_in phase now).pieces frame.slot frame.address ≡ true)
      watched.frames)
      each w.threads both
    where
      each : (watched : WatchedThread)
          → RunsIn k.threads watched × IsTrue (keeps_slots k.pieces watched) → All (λ (frame : Frame).
          touches None frame.slot ≡ false → holds_dword (patched_in phase now).pieces frame.slot frame.address ≡ true)
          watched.frames
      each watched (is, keeps) =
          All-weaker (λ (frame : Frame). (is_slot watched.stack watched.esp frame.slot ≡ true)
          × (holds_dword k.pieces frame.slot frame.address ≡ true))
          (λ (frame : Frame). touches None frame.slot ≡ false
          → holds_dword (patched_in phase now).pieces frame.slot frame.address ≡ true)
          (λ (frame : Frame) p untouched.
          let within = slot_within watched.stack watched.esp frame.slot p.0 in
          (phases_alike jumps now built_now phase opened).holds frame.slot frame.address
          ∙ stays watched is frame.slot frame.address within.0 within.1 ∙ p.1) watched.frames
          (frames_hold k.pieces watched keeps)

  is_unnoted : IsInStep now w
  is_unnoted = record {
    each = All-weaker
        (λ watched. RunsIn k.threads watched × IsTrue (keeps_slots k.pieces watched)) (Runs now) (λ watched p. record {
          running = runs_push k.threads thread watched p.0;
          slots = slots_stay now.pieces k.pieces watched (stays watched p.0) p.1;
        }) w.threads both;
    stopped = in_step.stopped;
    bare = in_step.bare;
  }

  is_kept : IsInStep now (spawn_noted (sight_in now) thread w)
  is_kept =
      left_in_step now (spawn_noted (sight_in now) thread w)
      (spawn_left (RunsIn now.threads) (sight_in now) w in_step.stopped thread
      (All-put_in (RunsIn now.threads) (started thread) w.threads
      (runs_as now.threads
      (started thread) thread (ap if_running (read_last k.threads thread)) (record { stack = refl; esp = refl }))
      (All-weaker (RunsIn k.threads)
      (RunsIn now.threads) (runs_push k.threads thread) w.threads (runs_in k w in_step))))
      in_step.bare

  is_begun : IsBuilt now → IsOpenAt phase now → IsBegun (patched_in phase now) k now w thread
  is_begun built_now opened = record {
    start = λ well. is_start;
    held = is_held built_now opened;
    same = spawn_alike (sight_of (patched_in phase now)) (sight_in now)
        (phases_alike jumps now built_now phase opened) thread w;
    kept = is_kept;
    unnoted = is_unnoted;
  }

-- a thread that was started is there
thread_there : (k now : AbstractMachine) (argument number : ℕ)
    (gives : HasStarted k argument (happened now (Spawned number)))
    → slice_get now.threads number ≡ Some (first_thread (length k.threads) gives.stack gives.pc)
thread_there k now argument number gives =
    let first : Thread = first_thread (length k.threads) gives.stack gives.pc in
    let answer : Spawned number ≡ Spawned (length k.threads) = gives.answer in
    let count : number ≡ length k.threads = cc in
    ap (λ (m : AbstractMachine). slice_get m.threads number) gives.machine
    ∙ ap (slice_get (k.threads ++ first ∷ [])) count
    ∙ read_last k.threads first

pub spawn_begun : JumpLaws → (phase : Phase)
    → (k now : AbstractMachine) (w : Watching) (name : List ℕ) (argument number : ℕ) (thread : Thread)
    (memory : Contents)
    → IsBuilt now → IsOpenAt phase now → IsInStep k w
    → WellPlaced k.stacks k.threads → answered k (Spawn name argument) ≡ Ok (happened now (Spawned number))
    → slice_get now.threads number ≡ Some thread → memory ≡ patched_in phase now → IsBegun memory k now w thread
spawn_begun jumps phase k now w name argument number thread memory built_now opened in_step placed is got_after there =
    let gives = spawn_gives k name argument (happened now (Spawned number)) is in
    let first : Thread = first_thread (length k.threads) gives.stack gives.pc in
    let same : first ≡ thread = same_Some first thread (sym (thread_there k now argument number gives) ∙ got_after) in
    subst (λ (m : Contents). IsBegun m k now w thread) (sym there)
    (subst (λ (m : AbstractMachine). IsBegun (patched_in phase m) k m w thread) (sym gives.machine)
    (subst (λ (t : Thread). let m : AbstractMachine = record k {
      pieces = written gives.stack.low (first_bytes gives.stack argument) k.pieces;
      threads = k.threads ++ first ∷ [];
    } in IsBegun (patched_in phase m) k m w t) same
    (is_begun jumps phase k w gives.stack gives.pc argument in_step placed gives.free
    (subst IsBuilt gives.machine built_now) (subst (IsOpenAt phase) gives.machine opened))))

pub started_within : (k now : AbstractMachine) (name : List ℕ) (argument number : ℕ)
    → answered k (Spawn name argument) ≡ Ok (happened now (Spawned number)) → number < length now.threads
started_within k now name argument number is =
    slice_get_within now.threads number _
    (thread_there k now argument number (spawn_gives k name argument (happened now (Spawned number)) is))

pub started_there : (k now : AbstractMachine) (name : List ℕ) (argument number : ℕ)
    → answered k (Spawn name argument) ≡ Ok (happened now (Spawned number))
    → slice_get now.threads number ≡ None → ⊥
started_there k now name argument number is none =
    let there =
    thread_there k now argument number (spawn_gives k name argument (happened now (Spawned number)) is) in cc

-- the session after a start
pub spawn_watched : (s : Watched)
    (now : AbstractMachine) (v : Watching) (name : List ℕ) (argument number : ℕ) (thread : Thread)
    → answered s.machine (Spawn name argument) ≡ Ok (happened now (Spawned number))
    → slice_get now.threads number ≡ Some thread
    → v ≡ spawn_noted (sight_in now) thread s.watch → watched s now v ≡ watched_after s (Spawn name argument)
unfolding watched_after
spawn_watched s now v name argument number thread is got_after noted =
    ap (watched s now) (noted ∙ sym (ap (λ (o : Option Thread). start_seen (sight_in now) o s.watch) got_after))
    ∙ sym (ap (watched_by s (Spawn name argument)) is)

-- a start that the watch lacks
pub spawn_unnoted : (s : Watched) (now : AbstractMachine) (name : List ℕ) (argument number : ℕ)
    → answered s.machine (Spawn name argument) ≡ Ok (happened now (Spawned number))
    → MadeFront s (Spawn name argument ∷ []) None (watched s now s.watch)
unfolding watched_after_all after_events after_event
spawn_unnoted s now name argument number is =
    Unnoted [] [] name argument refl (ap (λ (k : AbstractMachine). watched s k s.watch)
    (sym (ap (machine_after s.machine) is)))
