-- What an event comes to: by the rules of start, return and arrival, and then by the slot rule.
use Rattle.std.proofs.Common.{◌≡◌, ℕ, Bool, true, false, cond, ◌&&◌, List, []}
use Rattle.std.proofs.Common.{get_or, refl, sym, ap, arith, Option, Some, None}
use Rattle.std.specs.List.{last_or}
use Rattle.std.proofs.lemmas.List.Sums.{AllPass-from_list_all, list_all-from_AllPass}
use Rattle.ks_base.specs.declared.places.Range.{Range}
use Rattle.image_memory.specs.declared.types.Piece.{Piece}
use Rattle.image_memory.specs.Fetch.{has_window}
use Rattle.ia32_step.specs.declared.types.Frame.{Frame}
use Rattle.ia32_step.specs.declared.types.Thread.{Thread}
use Rattle.ia32_step.specs.declared.types.Flow.TheVariants.{Plain, Call, Return}
use Rattle.ia32_step.specs.declared.types.Outcome.{Outcome}
use Rattle.ia32_step.specs.declared.types.Outcome.TheVariants.{Moved, Exited, Stopped}
use Rattle.ia32_step.specs.Frames.{is_slot, keeps_slot}
use Rattle.ia32_step.specs.Threads.{esp_of}
use Rattle.frame_watch.specs.declared.types.Rule.{Rule}
use Rattle.frame_watch.specs.declared.types.Rule.TheVariants as rules
use Rattle.frame_watch.specs.declared.types.Verdict.{Verdict}
use Rattle.frame_watch.specs.declared.types.Verdict.TheVariants.{Disciplined, Broken}
use Rattle.frame_watch.specs.Frames.{Watched, Watching, frames_at, with_frames}
use Rattle.frame_watch.specs.Frames.{with_started, opened, closed, keeps_slots}
use Rattle.frame_watch.specs.Discipline.{Sight, counted, broken, pops, breaking, least, slot_broken, slots_tested}
use Rattle.frame_watch.specs.Discipline.{after_start, after_outcome, unless_broken, spawn_noted, step_noted, hooks_noted}
use Rattle.frame_watch.specs.inside.Kept.{AreInPlace, StopsAt, is_in_place}
use Rattle.frame_watch.specs.inside.Events.{broken_unless, ruled, step_ruled, start_ruled, advanced, begun}
use Rattle.frame_watch.proofs.LeastLaws.{all_pass}

-- where no threads are kept the slot rule is kept
untested : (sight : Sight) (w : Watching) → w.threads ≡ [] → slots_tested sight w ≡ w
unfolding slots_tested
untested sight w none = ap (λ (ts : List Watched). slot_broken w (least (breaking sight.pieces ts))) none

-- the slot rule is tested after a rule was kept, and where one was broken there is nothing to test
ruled_tested : (sight : Sight) (kept : Bool) (rule : Rule) (thread : ℕ) (threads : List Watched) (w : Watching)
    → (cond kept (slots_tested sight (let v : Watching = record w { threads = threads } in v)) (broken w thread rule))
    ≡ slots_tested sight (ruled (broken_unless kept rule) thread threads w)
ruled_tested sight true rule thread threads w = refl
ruled_tested sight false rule thread threads w = sym (untested sight (broken w thread rule) refl)

stepped_tested : (sight : Sight) (before after : Thread) (outcome : Outcome) (frames : List Frame) (w : Watching)
    → after_outcome sight before after frames outcome w
    ≡ slots_tested sight (step_ruled sight before after outcome frames w)
stepped_tested sight before after (Moved Return) frames w =
    ruled_tested sight (pops (esp_of before) after.pc (last_or None frames)) rules.Return after.number
    (with_frames w.threads after (closed frames)) w
stepped_tested sight before after (Moved Call) frames w =
    ruled_tested sight (has_window (sight.view after.pc)) rules.Arrival after.number
    (with_frames w.threads after (opened sight.pieces after frames)) w
stepped_tested sight before after (Moved Plain) frames w =
    ruled_tested sight (has_window (sight.view after.pc)) rules.Arrival after.number
    (with_frames w.threads after frames) w
stepped_tested sight before after (Exited value) frames w = refl
stepped_tested sight before after (Stopped fault) frames w = refl

pub step_is : (sight : Sight) (before after : Thread) (outcome : Outcome) (w : Watching) → StopsAt w.verdict w.threads
    → slots_tested sight (advanced sight before after outcome w) ≡ step_noted sight before after outcome w
unfolding step_noted advanced
step_is sight before after outcome w stops = by_verdict w.verdict stops
  where
    frames : List Frame
    frames = frames_at w.threads before.number

    by_verdict : (v : Verdict) → StopsAt v w.threads
        → slots_tested sight (unless_broken v
        (step_ruled sight before after outcome (frames_at w.threads before.number)) (counted w))
        ≡ unless_broken v (after_outcome sight before after (frames_at w.threads before.number) outcome) (counted w)
    by_verdict Disciplined stops = sym
        (stepped_tested sight before after outcome (frames_at w.threads before.number) (counted w))
    by_verdict (Broken event thread rule) stops = untested sight (counted w) stops

pub spawn_is : (sight : Sight) (thread : Thread) (w : Watching) → StopsAt w.verdict w.threads
    → slots_tested sight (begun sight thread w) ≡ spawn_noted sight thread w
unfolding spawn_noted begun
spawn_is sight thread w stops = by_verdict w.verdict stops
  where
    by_verdict : (v : Verdict) → StopsAt v w.threads
        → slots_tested sight (unless_broken v (start_ruled sight thread) (counted w))
        ≡ unless_broken v (after_start sight thread) (counted w)
    by_verdict Disciplined stops =
        sym (ruled_tested sight (has_window (sight.view thread.pc)) rules.Start thread.number
        (with_started w.threads thread) (counted w))
    by_verdict (Broken event thread rule) stops = untested sight (counted w) stops

pub hooks_are : (sight : Sight) (w : Watching) → StopsAt w.verdict w.threads
    → slots_tested sight (counted w) ≡ hooks_noted sight w
unfolding hooks_noted
hooks_are sight w stops = by_verdict w.verdict stops
  where
    by_verdict : (v : Verdict) → StopsAt v w.threads
        → slots_tested sight (counted w) ≡ unless_broken v (slots_tested sight) (counted w)
    by_verdict Disciplined stops = refl
    by_verdict (Broken event thread rule) stops = untested sight (counted w) stops

-- ---- after the test all slots are such
first_holds : (pieces : List Piece) (stack : Range) (esp : ℕ) (f : Frame) → keeps_slot pieces stack esp f ≡ true
    → is_slot stack esp f.slot ≡ true
unfolding keeps_slot
first_holds pieces stack esp f h = both (is_slot stack esp f.slot) _ h
  where
    both : (a b : Bool) → (a && b) ≡ true → a ≡ true
    both true b h = refl
    both false b h = absurd (cc)

kept_in_place : (pieces : List Piece) (w : Watched) → keeps_slots pieces w ≡ true → is_in_place w ≡ true
kept_in_place pieces w h =
    list_all-from_AllPass (λ (f : Frame). is_slot w.stack w.esp f.slot) w.frames (λ k d l.
    first_holds pieces w.stack w.esp (get_or w.frames k d)
    (AllPass-from_list_all (keeps_slot pieces w.stack w.esp) w.frames h k d l))

pub tested_in_place : (sight : Sight) (w : Watching) → AreInPlace (slots_tested sight w).threads
unfolding slots_tested
tested_in_place sight w = by_least (least (breaking sight.pieces w.threads)) refl
  where
    by_least : (o : Option ℕ) → least (breaking sight.pieces w.threads) ≡ o → AreInPlace (slot_broken w o).threads
    by_least None none = λ k d l. kept_in_place sight.pieces (get_or w.threads k d)
        (all_pass (keeps_slots sight.pieces) w.threads k d none l)
    by_least (Some thread) one = λ k d l. absurd (omega arith)
