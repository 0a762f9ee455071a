-- What an event that is noted leaves of the threads that are watched.
use Rattle.std.proofs.Common.{◌≡◌, ℕ, not, min, Bool, true, false, cond, if◌then◌else◌, IsTrue}
use Rattle.std.proofs.Common.{List, [], ◌∷◌, map, Option, Some, None, refl, sym, subst}
use Rattle.std.specs.List.{All, filter, fold, last_or}
use Rattle.std.proofs.lemmas.List.Elements.{All-nil, All-cons}
use Rattle.image_memory.specs.declared.types.Piece.{Piece}
use Rattle.image_memory.specs.Fetch.{has_window}
use Rattle.ia32_step.specs.declared.types.Frame.{Frame}
use Rattle.ia32_step.specs.declared.types.Thread.{Thread}
use Rattle.ia32_step.specs.declared.types.Flow.TheVariants.{Plain, Call, Return}
use Rattle.ia32_step.specs.declared.types.Outcome.{Outcome}
use Rattle.ia32_step.specs.declared.types.Outcome.TheVariants.{Moved, Exited, Stopped}
use Rattle.ia32_step.specs.Threads.{esp_of}
use Rattle.frame_watch.specs.declared.types.Rule.{Rule}
use Rattle.frame_watch.specs.declared.types.Rule.TheVariants as rules
use Rattle.frame_watch.specs.declared.types.Verdict.{Verdict}
use Rattle.frame_watch.specs.declared.types.Verdict.TheVariants.{Disciplined, Broken}
use Rattle.frame_watch.specs.Frames.{Watched, Watching, with_started, frames_at, with_frames}
use Rattle.frame_watch.specs.Frames.{without_thread, opened, closed, keeps_slots}
use Rattle.frame_watch.specs.Discipline.{Sight, counted, broken, number_of, breaking, lesser}
use Rattle.frame_watch.specs.Discipline.{least, slot_broken, slots_tested, after_start, pops}
use Rattle.frame_watch.specs.Discipline.{after_outcome, unless_broken, spawn_noted, step_noted, hooks_noted}
use Rattle.ksplice_session.specs.inside.InStep.{IsStopped}
use Rattle.ksplice_session.proofs.EventAnswers.{goes_on}

some_stays : (m : ℕ) (ns : List ℕ) → fold lesser (Some m) ns ≡ None → ⊥
some_stays m [] none = cc
some_stays m (n ∷ ns) none = some_stays (min m n) ns none

least_none : (ns : List ℕ) → least ns ≡ None → ns ≡ []
least_none [] none = refl
least_none (n ∷ ns) none = absurd (some_stays n ns none)

map_nil : {X Y : Type 0} (f : X → Y) (xs : List X) → map f xs ≡ [] → xs ≡ []
map_nil f [] none = refl
map_nil f (x ∷ xs) none = cc

none_breaking : (keeps : Watched → Bool) (ws : List Watched)
    → filter (λ w. not (keeps w)) ws ≡ [] → All (λ w. IsTrue (keeps w)) ws
none_breaking keeps [] none = All-nil (λ w. IsTrue (keeps w))
none_breaking keeps (w ∷ ws) none =
    elim (keeps w)
    as (λ b. keeps w ≡ b → cond (not b) (w ∷ filter (λ w. not (keeps w)) ws) (filter (λ w. not (keeps w)) ws) ≡ []
    → All (λ w. IsTrue (keeps w)) (w ∷ ws)) [
      | true ↦ λ is rest. All-cons (λ w. IsTrue (keeps w)) w ws is (none_breaking keeps ws rest)
      | false ↦ λ is rest. cc
    ] refl none

pub all_keep : (pieces : List Piece) (ws : List Watched)
    → least (breaking pieces ws) ≡ None → All (λ w. IsTrue (keeps_slots pieces w)) ws
all_keep pieces ws none = none_breaking (keeps_slots pieces) ws (map_nil number_of _ (least_none _ none))

-- Of the threads that are watched something holds, each keeps the slot rule, and there are none once a rule was broken.
pub record IsLeft (R : Watched → Type 0) (pieces : List Piece) (w : Watching) : Type 0 where
  pub each : All R w.threads
  pub slots : All (λ watched. IsTrue (keeps_slots pieces watched)) w.threads
  pub stopped : IsStopped w.verdict w.threads

broken_left : (R : Watched → Type 0) (pieces : List Piece) (w : Watching) (thread : ℕ) (rule : Rule)
    → IsLeft R pieces (broken w thread rule)
broken_left R pieces w thread rule = record {
  each = All-nil R;
  slots = All-nil (λ watched. IsTrue (keeps_slots pieces watched));
  stopped = refl;
}

tested_left : (R : Watched → Type 0) (sight : Sight) (w : Watching)
    → w.verdict ≡ Disciplined → All R w.threads → IsLeft R sight.pieces (slots_tested sight w)
unfolding slots_tested
tested_left R sight w well all = by (least (breaking sight.pieces w.threads)) refl
  where
    by : (o : Option ℕ) → least (breaking sight.pieces w.threads) ≡ o → IsLeft R sight.pieces (slot_broken w o)
    by None none = record {
      each = all;
      slots = all_keep sight.pieces w.threads none;
      stopped = subst (λ (verdict : Verdict). IsStopped verdict w.threads) (sym well) tt;
    }
    by (Some thread) some = broken_left R sight.pieces w thread rules.Slot

-- either way
either_left : (R : Watched → Type 0) (pieces : List Piece) (b : Bool) (x y : Watching)
    → IsLeft R pieces x → IsLeft R pieces y
    → IsLeft R pieces (if b then x else y)
either_left R pieces true x y one other = one
either_left R pieces false x y one other = other

unless_left : (R : Watched → Type 0) (pieces : List Piece) (w : Watching) (next : Watching → Watching)
    → IsStopped w.verdict w.threads
    → (w.verdict ≡ Disciplined → IsLeft R pieces (next (counted w)))
    → IsLeft R pieces (unless_broken w.verdict next (counted w))
unless_left R pieces w next stopped here = by w.verdict refl stopped
  where
    by : (verdict : Verdict)
        → w.verdict ≡ verdict → IsStopped verdict w.threads → IsLeft R pieces (unless_broken verdict next (counted w))
    by Disciplined is stop = here is
    by (Broken event thread rule) is stop = record {
      each = subst (All R) (sym stop) (All-nil R);
      slots = subst (All (λ watched. IsTrue (keeps_slots pieces watched)))
          (sym stop) (All-nil (λ watched. IsTrue (keeps_slots pieces watched)));
      stopped = subst (λ (v : Verdict). IsStopped v w.threads) (sym is) stop;
    }

module _ (R : Watched → Type 0) (sight : Sight) (w : Watching) (stopped : IsStopped w.verdict w.threads) where
  -- a step, where something holds of the threads with any frames of the one that moved, or without it
  pub step_left : (before after : Thread) (outcome : Outcome)
      → ((frames : List Frame) → goes_on outcome ≡ true → All R (with_frames w.threads after frames))
      → All R (without_thread w.threads after.number)
      → IsLeft R sight.pieces (step_noted sight before after outcome w)
  unfolding step_noted
  step_left before after outcome moved gone =
      unless_left R sight.pieces w
      (after_outcome sight before after (frames_at w.threads before.number) outcome) stopped
      (λ well. by (frames_at w.threads before.number) outcome well moved)
    where
      arrived : (frames : List Frame) → w.verdict ≡ Disciplined → All R (with_frames w.threads after frames)
          → IsLeft R sight.pieces (if has_window (sight.view after.pc)
          then slots_tested sight (record (counted w) { threads = with_frames w.threads after frames })
          else broken (counted w) after.number rules.Arrival)
      arrived frames well all =
          either_left R sight.pieces (has_window (sight.view after.pc)) _ _
          (tested_left R sight (record (counted w) { threads = with_frames w.threads after frames }) well all)
          (broken_left R sight.pieces (counted w) after.number rules.Arrival)

      by : (frames : List Frame) (outcome : Outcome) → w.verdict ≡ Disciplined
          → ((frames : List Frame) → goes_on outcome ≡ true → All R (with_frames w.threads after frames))
          → IsLeft R sight.pieces (after_outcome sight before after frames outcome (counted w))
      by frames (Moved Return) well moved =
          either_left R sight.pieces (pops (esp_of before) after.pc (last_or None frames)) _ _
          (tested_left R sight (record (counted w) { threads = with_frames w.threads after (closed frames) }) well
          (moved (closed frames) refl))
          (broken_left R sight.pieces (counted w) after.number rules.Return)
      by frames (Moved Call) well moved =
          arrived (opened sight.pieces after frames) well (moved (opened sight.pieces after frames) refl)
      by frames (Moved Plain) well moved = arrived frames well (moved frames refl)
      by frames (Exited value) well moved =
          tested_left R sight (record (counted w) { threads = without_thread w.threads after.number }) well gone
      by frames (Stopped fault) well moved =
          tested_left R sight (record (counted w) { threads = without_thread w.threads after.number }) well gone

  pub spawn_left : (thread : Thread)
      → All R (with_started w.threads thread) → IsLeft R sight.pieces (spawn_noted sight thread w)
  unfolding spawn_noted
  spawn_left thread all =
      unless_left R sight.pieces w (after_start sight thread) stopped (λ well.
      either_left R sight.pieces (has_window (sight.view thread.pc)) _ _
      (tested_left R sight (record (counted w) { threads = with_started w.threads thread }) well all)
      (broken_left R sight.pieces (counted w) thread.number rules.Start))

  pub hooks_left : All R w.threads → IsLeft R sight.pieces (hooks_noted sight w)
  unfolding hooks_noted
  hooks_left all =
      unless_left R sight.pieces w (slots_tested sight) stopped (λ well. tested_left R sight (counted w) well all)
