-- A watch comes to the same where it sees the same.
use Rattle.std.proofs.Common.{◌≡◌, ℕ, ◌&&◌, not, Bool, if◌then◌else◌, List, [], ◌∷◌, ◌++◌, map, None, refl, ◌∙◌, ap}
use Rattle.std.specs.List.{list_all, filter, last_or}
use Rattle.image_memory.specs.Fetch.{has_window}
use Rattle.image_memory.specs.Access.{first_fault, read_fault, dword_at}
use Rattle.ia32_step.specs.declared.types.Frame.{Frame}
use Rattle.ia32_step.specs.declared.types.Thread.{Thread}
use Rattle.ia32_step.specs.declared.types.Flow.TheVariants.{Plain, Call, Return}
use Rattle.ia32_step.specs.declared.types.Outcome.{Outcome}
use Rattle.ia32_step.specs.declared.types.Outcome.TheVariants.{Moved, Exited, Stopped}
use Rattle.ia32_step.specs.Threads.{esp_of}
use Rattle.ia32_step.specs.Frames.{is_slot, holds_dword, keeps_slot}
use Rattle.frame_watch.specs.declared.types.Rule.TheVariants as rules
use Rattle.frame_watch.specs.declared.types.Verdict.{Verdict}
use Rattle.frame_watch.specs.declared.types.Verdict.TheVariants.{Disciplined, Broken}
use Rattle.frame_watch.specs.Frames.{Watched, Watching, with_started, frames_at}
use Rattle.frame_watch.specs.Frames.{with_frames, closed, frame, keeps_slots}
use Rattle.frame_watch.specs.Discipline.{Sight, counted, broken, number_of, least, slot_broken, slots_tested}
use Rattle.frame_watch.specs.Discipline.{after_start, pops, after_outcome, unless_broken, spawn_noted, step_noted}
use Rattle.frame_watch.specs.Discipline.{hooks_noted}

-- the same addresses have a window, the same slots hold the same, and what can be read is the same
pub record IsAlike (x y : Sight) : Type 0 where
  pub windows : (pc : ℕ) → has_window (x.view pc) ≡ has_window (y.view pc)
  pub holds : (address value : ℕ) → holds_dword x.pieces address value ≡ holds_dword y.pieces address value
  pub words : (address : ℕ)
      → first_fault (read_fault x.pieces) address 4 ≡ None → dword_at x.pieces address ≡ dword_at y.pieces address

frame_alike : (x y : Sight) → IsAlike x y → (watched : Watched) (frame : Frame)
    → keeps_slot x.pieces watched.stack watched.esp frame ≡ keeps_slot y.pieces watched.stack watched.esp frame
unfolding keeps_slot
frame_alike x y alike watched frame =
    ap (λ (b : Bool). is_slot watched.stack watched.esp frame.slot && b) (alike.holds frame.slot frame.address)

keeps_alike : (x y : Sight)
    → IsAlike x y → (watched : Watched) → keeps_slots x.pieces watched ≡ keeps_slots y.pieces watched
keeps_alike x y alike watched =
    ap (λ (test : Frame → Bool). list_all test watched.frames) (λ i frame. frame_alike x y alike watched frame i)

tested_alike : (x y : Sight) → IsAlike x y → (w : Watching) → slots_tested x w ≡ slots_tested y w
unfolding slots_tested
tested_alike x y alike w =
    ap (λ (keeps : Watched → Bool).
    slot_broken w (least (map number_of (filter (λ watched. not (keeps watched)) w.threads))))
    (λ i watched. keeps_alike x y alike watched i)

arrival_alike : (x y : Sight) → IsAlike x y → (pc : ℕ) (w other : Watching)
    → (if has_window (x.view pc) then slots_tested x w else other)
    ≡ (if has_window (y.view pc) then slots_tested y w else other)
arrival_alike x y alike pc w other =
    ap (λ (b : Bool). if b then slots_tested x w else other) (alike.windows pc)
    ∙ ap (λ (t : Watching). if has_window (y.view pc) then t else other) (tested_alike x y alike w)

outcome_alike : (x y : Sight)
    → IsAlike x y → (before after : Thread) (frames : List Frame) (outcome : Outcome) (w : Watching)
    → (outcome ≡ Moved Call → first_fault (read_fault x.pieces) (esp_of after) 4 ≡ None)
    → after_outcome x before after frames outcome w ≡ after_outcome y before after frames outcome w
outcome_alike x y alike before after frames (Moved Return) w pushed =
    ap (λ (t : Watching). if pops (esp_of before) after.pc (last_or None frames)
    then t else broken w after.number rules.Return)
    (tested_alike x y alike (record w { threads = with_frames w.threads after (closed frames) }))
outcome_alike x y alike before after frames (Moved Call) w pushed =
    ap (λ (n : ℕ). if has_window (x.view after.pc)
    then slots_tested x (record w { threads = with_frames w.threads after (frames ++ frame (esp_of after) n ∷ []) })
    else broken w after.number rules.Arrival) (alike.words (esp_of after) (pushed refl))
    ∙ arrival_alike x y alike after.pc
    (record w {
      threads =
          with_frames w.threads after (frames ++ frame (esp_of after) (dword_at y.pieces (esp_of after)) ∷ []);
    })
    (broken w after.number rules.Arrival)
outcome_alike x y alike before after frames (Moved Plain) w pushed =
    arrival_alike x y alike after.pc
    (record w { threads = with_frames w.threads after frames }) (broken w after.number rules.Arrival)
outcome_alike x y alike before after frames (Exited value) w pushed = tested_alike x y alike _
outcome_alike x y alike before after frames (Stopped fault) w pushed = tested_alike x y alike _

unless_alike : (verdict : Verdict) (f g : Watching → Watching) (w : Watching)
    → f w ≡ g w → unless_broken verdict f w ≡ unless_broken verdict g w
unless_alike Disciplined f g w same = same
unless_alike (Broken event thread rule) f g w same = refl

pub step_alike : (x y : Sight) → IsAlike x y → (before after : Thread) (outcome : Outcome) (w : Watching)
    → (outcome ≡ Moved Call → first_fault (read_fault x.pieces) (esp_of after) 4 ≡ None)
    → step_noted x before after outcome w ≡ step_noted y before after outcome w
unfolding step_noted
step_alike x y alike before after outcome w pushed =
    let frames = frames_at w.threads before.number in
    unless_alike w.verdict
    (after_outcome x before after frames outcome) (after_outcome y before after frames outcome) (counted w)
    (outcome_alike x y alike before after frames outcome (counted w) pushed)

pub spawn_alike : (x y : Sight)
    → IsAlike x y → (thread : Thread) (w : Watching) → spawn_noted x thread w ≡ spawn_noted y thread w
unfolding spawn_noted
spawn_alike x y alike thread w =
    unless_alike w.verdict (after_start x thread) (after_start y thread) (counted w)
    (arrival_alike x y alike thread.pc (record (counted w) { threads = with_started (counted w).threads thread })
    (broken (counted w) thread.number rules.Start))

pub hooks_alike : (x y : Sight) → IsAlike x y → (w : Watching) → hooks_noted x w ≡ hooks_noted y w
unfolding hooks_noted
hooks_alike x y alike w =
    unless_alike w.verdict (slots_tested x) (slots_tested y) (counted w) (tested_alike x y alike (counted w))
