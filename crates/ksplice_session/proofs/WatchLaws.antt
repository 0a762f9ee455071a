-- Watched threads of a machine whose threads change.
use Rattle.std.proofs.Common.{◌≡◌, ◌≢◌, ℕ, zero, suc, ◌+◌, ◌<◌, ◌==◌, not, Bool, true, false}
use Rattle.std.proofs.Common.{cond, if◌then◌else◌, IsTrue, IsSomeAnd, List, [], ◌∷◌, ◌++◌}
use Rattle.std.proofs.Common.{length, set, Option, Some, None, refl, sym, ◌∙◌, ap, subst, arith}
use Rattle.std.specs.List.{All, Contains, slice_get}
use Rattle.std.proofs.lemmas.Bool.{eqb-true}
use Rattle.std.proofs.lemmas.Bool.Decides.{nat_tests}
use Rattle.std.proofs.lemmas.List.Elements.{All-nil, All-cons, All-head, All-tail, All-weaker, All-map}
use Rattle.std.proofs.lemmas.Option.{same_Some, slice_get_within}
use Rattle.ks_base.specs.declared.places.Range.{Range}
use Rattle.image_memory.specs.Ranges.{put_in}
use Rattle.ia32_step.specs.declared.types.Frame.{Frame}
use Rattle.ia32_step.specs.declared.types.Thread.{Thread}
use Rattle.ia32_step.specs.Threads.{esp_of}
use Rattle.image_threads.specs.Program.{if_running, running_at, AreNumbered, WellPlaced}
use Rattle.update_stack.specs.AbstractMachine.{AbstractMachine}
use Rattle.frame_watch.specs.Frames.{Watched, Watching, stack_of, if_of, with_frames, without_thread, keeps_slots}
use Rattle.ksplice_session.specs.inside.InStep.{IsSame, Runs, IsInStep}
use Rattle.ksplice_session.proofs.Lookups.{All-at, set_elsewhere, one_more}
use Rattle.ksplice_session.proofs.EventAnswers.{running_is}
use Rattle.ksplice_session.proofs.TestedLaws.{IsLeft}

-- a watched thread runs
abbrev pub RunsIn : List Thread → Watched → Type 0
RunsIn threads watched = IsSomeAnd (running_at threads watched.thread) (IsSame watched)

pub runs_in : (k : AbstractMachine) (w : Watching) → IsInStep k w → All (RunsIn k.threads) w.threads
runs_in k w is = All-weaker (Runs k) (RunsIn k.threads) (λ watched r. r.running) w.threads is.each

pub slots_in : (k : AbstractMachine) (w : Watching)
    → IsInStep k w → All (λ watched. IsTrue (keeps_slots k.pieces watched)) w.threads
slots_in k w is =
    All-weaker (Runs k) (λ watched. IsTrue (keeps_slots k.pieces watched)) (λ watched r. r.slots) w.threads is.each

pub left_in_step : (k : AbstractMachine) (w : Watching) → IsLeft (RunsIn k.threads) k.pieces w → k.scratch ≡ None
    → IsInStep k w
left_in_step k w left bare = record {
  each = λ i d less. record { running = left.each i d less; slots = left.slots i d less };
  stopped = left.stopped;
  bare = bare;
}

-- the thread of a number, and that it runs
pub record IsRunning (threads : List Thread) (watched : Watched) : Type 0 where
  pub thread : Thread
  pub found : running_at threads watched.thread ≡ Some thread
  pub got : slice_get threads watched.thread ≡ Some thread
  pub same : IsSame watched thread

pub its_thread : (threads : List Thread) (watched : Watched) → RunsIn threads watched → IsRunning threads watched
its_thread threads watched is = by (running_at threads watched.thread) refl is
  where
    by : (o : Option Thread)
        → running_at threads watched.thread ≡ o → IsSomeAnd o (IsSame watched) → IsRunning threads watched
    by None e is = absurd is
    by (Some thread) e is = record {
      thread = thread;
      found = e;
      got = (running_is (slice_get threads watched.thread) thread e).0;
      same = is;
    }

-- the stack of a watched thread is one of the machine's
pub stack_listed : (stacks : List Range) (threads : List Thread) (watched : Watched)
    → WellPlaced stacks threads → RunsIn threads watched
    → Contains stacks watched.stack
stack_listed stacks threads watched placed is =
    let r = its_thread threads watched is in
    subst (Contains stacks) (sym r.same.stack)
    (All-at (λ (t : Thread). Contains stacks t.stack) threads watched.thread r.thread placed.listed r.got)

pub runs_as : (threads : List Thread) (watched : Watched) (thread : Thread)
    → running_at threads watched.thread ≡ Some thread
    → IsSame watched thread → RunsIn threads watched
runs_as threads watched thread found same = subst (λ (o : Option Thread). IsSomeAnd o (IsSame watched)) (sym found) same

-- a running thread is one of the threads
pub running_got : (threads : List Thread) (n : ℕ) (thread t : Thread)
    → slice_get threads n ≡ Some thread → running_at threads n ≡ Some t → thread ≡ t
running_got threads n thread t got found = same_Some thread t (sym got ∙ (running_is (slice_get threads n) t found).0)

pub numbered_at : (m : ℕ) (threads : List Thread) (n : ℕ) (thread : Thread)
    → AreNumbered m threads → slice_get threads n ≡ Some thread
    → thread.number ≡ m + n
numbered_at m [] n thread numbered got = cc
numbered_at m (x ∷ xs) zero thread numbered got =
    let same : x ≡ thread = cc in ap (λ (t : Thread). t.number) (sym same) ∙ numbered.0 ∙ omega arith
numbered_at m (x ∷ xs) (suc n) thread numbered got =
    let later : thread.number ≡ suc m + n = numbered_at (suc m) xs n thread numbered.1 got in omega (arith, later)

-- another thread moved
pub runs_set : (threads : List Thread) (n : ℕ) (x : Thread) (watched : Watched)
    → watched.thread ≢ n → RunsIn threads watched
    → RunsIn (set threads n x) watched
runs_set threads n x watched other is =
    subst (λ (o : Option Thread). IsSomeAnd (if_running o) (IsSame watched))
    (sym (set_elsewhere threads n watched.thread x (λ e. other (sym e)))) is

-- a thread more
pub runs_push : (threads : List Thread) (x : Thread) (watched : Watched)
    → RunsIn threads watched → RunsIn (threads ++ x ∷ []) watched
runs_push threads x watched is =
    let r = its_thread threads watched is in
    let less : watched.thread < length threads = slice_get_within threads watched.thread r.thread r.got in
    subst (λ (o : Option Thread). IsSomeAnd (if_running o) (IsSame watched))
    (sym (one_more threads x watched.thread (λ e. omega (arith, less, e)))) is

-- the threads without one of them
pub without_runs : (threads : List Thread) (n : ℕ) (x : Thread) (ws : List Watched) → All (RunsIn threads) ws
    → All (RunsIn (set threads n x)) (without_thread ws n)
without_runs threads n x [] all = All-nil (RunsIn (set threads n x))
without_runs threads n x (w ∷ ws) all =
    elim (w.thread == n) as (λ b. (w.thread == n) ≡ b
    → All (RunsIn (set threads n x)) (cond (not b) (w ∷ without_thread ws n) (without_thread ws n))) [
      | true ↦ λ here. without_runs threads n x ws (All-tail (RunsIn threads) w ws all)
      | false ↦ λ other.
          All-cons (RunsIn (set threads n x)) w (without_thread ws n)
          (runs_set threads n x w (λ e. grind (arith, nat_tests)) (All-head (RunsIn threads) w ws all))
          (without_runs threads n x ws (All-tail (RunsIn threads) w ws all))
    ] refl

-- the threads with other frames of one that goes on
pub frames_run : (threads : List Thread) (n : ℕ) (before after : Thread) (frames : List Frame) (ws : List Watched)
    → All (RunsIn threads) ws
    → running_at threads n ≡ Some before
    → running_at (set threads n after) n ≡ Some after → after.number ≡ n → after.stack ≡ before.stack
    → All (RunsIn (set threads n after)) (with_frames ws after frames)
frames_run threads n before after frames ws all was now number stack =
    All-map (RunsIn (set threads n after)) (if_of after.number (esp_of after) frames) ws
    (All-weaker (RunsIn threads)
    (λ w. RunsIn (set threads n after) (if_of after.number (esp_of after) frames w)) each ws all)
  where
    each : (w : Watched) → RunsIn threads w → RunsIn (set threads n after) (if_of after.number (esp_of after) frames w)
    each w is =
        elim (w.thread == after.number) as (λ b. (w.thread == after.number) ≡ b
        → RunsIn (set threads n after) (if b then record w { esp = esp_of after; frames = frames } else w)) [
          | true ↦ λ here.
              let own : w.thread ≡ n = eqb-true w.thread after.number here ∙ number in
              let r = its_thread threads w is in
              let same : r.thread ≡ before =
              same_Some r.thread before (sym r.found ∙ ap (running_at threads) own ∙ was) in
              runs_as (set threads n after) (record w { esp = esp_of after; frames = frames }) after
              (ap (running_at (set threads n after)) own ∙ now)
              (record { stack = r.same.stack ∙ ap (λ (t : Thread). t.stack) same ∙ sym stack; esp = refl })
          | false ↦ λ other. runs_set threads n after w
              (λ e. let same : w.thread ≡ after.number = e ∙ sym number in grind (arith, nat_tests)) is
        ] refl

-- a thing put among things
pub All-put_in : (P : Watched → Type 0) (x : Watched) (ws : List Watched)
    → P x → All P ws → All P (put_in stack_of x ws)
All-put_in P x [] p all = All-cons P x [] p all
All-put_in P x (w ∷ ws) p all =
    either _ (x ∷ w ∷ ws) (w ∷ put_in stack_of x ws) (All-cons P x (w ∷ ws) p all)
    (All-cons P w (put_in stack_of x ws) (All-head P w ws all) (All-put_in P x ws p (All-tail P w ws all)))
  where
    either : (b : Bool) (us vs : List Watched) → All P us → All P vs → All P (if b then us else vs)
    either true us vs one other = one
    either false us vs one other = other
