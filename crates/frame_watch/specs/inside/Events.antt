-- Events in two parts: what they come to by the rules of start, return and arrival; the slot rule is tested after that.
use Rattle.std.specs.Prelude.{◌≡◌, ℕ, ◌+◌, ◌<◌, ◌≤◌, Bool, true, false, List, Option, Some, None}
use Rattle.std.specs.List.{last_or}
use Rattle.image_memory.specs.declared.types.Piece.{Piece}
use Rattle.image_memory.specs.Fetch.{has_window}
use Rattle.ia32_step.specs.declared.types.Frame.{Frame}
use Rattle.ia32_step.specs.declared.types.Thread.{Thread}
use Rattle.ia32_step.specs.declared.types.Flow.{Flow}
use Rattle.ia32_step.specs.declared.types.Flow.TheVariants.{Plain, Call, Return}
use Rattle.ia32_step.specs.declared.types.Outcome.{Outcome}
use Rattle.ia32_step.specs.declared.types.Outcome.TheVariants.{Moved, Exited, Stopped}
use Rattle.ia32_step.specs.Threads.{esp_of}
use Rattle.frame_watch.specs.declared.types.Rule.{Rule}
use Rattle.frame_watch.specs.declared.types.Rule.TheVariants as rules
use Rattle.frame_watch.specs.Frames.{Watched, Watching, with_started, frames_at}
use Rattle.frame_watch.specs.Frames.{with_frames, without_thread, opened, closed}
use Rattle.frame_watch.specs.Discipline.{Sight, counted, broken, lesser, pops, unless_broken}

abbrev pub broken_unless : Bool → Rule → Option Rule
broken_unless true rule = None
broken_unless false rule = Some rule

-- the first of the rules but the slot rule that a step breaks
abbrev pub flow_rule : Sight → (before after : Thread) → List Frame → Flow → Option Rule
flow_rule sight before after frames Return =
    broken_unless (pops (esp_of before) after.pc (last_or None frames)) rules.Return
flow_rule sight before after frames Call = broken_unless (has_window (sight.view after.pc)) rules.Arrival
flow_rule sight before after frames Plain = broken_unless (has_window (sight.view after.pc)) rules.Arrival

abbrev pub step_rule : Sight → (before after : Thread) → List Frame → Outcome → Option Rule
step_rule sight before after frames (Moved flow) = flow_rule sight before after frames flow
step_rule sight before after frames (Exited value) = None
step_rule sight before after frames (Stopped fault) = None

-- an address of one of so many bytes from another on, which are more than a jump at a home has
pub record WasFetched (start count address : ℕ) : Type 0 where
  pub many : 5 < count
  pub above : start ≤ address
  pub below : address < start + count

-- a step that is neither a call nor a return, and leaves ESP as it is
pub record IsStill (before after : Thread) (outcome : Outcome) : Type 0 where
  pub plain : outcome ≡ Moved Plain
  pub esp : esp_of after ≡ esp_of before

-- the frames that a step leaves, and the threads
abbrev pub flow_frames : List Piece → Thread → Flow → List Frame → List Frame
flow_frames pieces after Return frames = closed frames
flow_frames pieces after Call frames = opened pieces after frames
flow_frames pieces after Plain frames = frames

abbrev pub moved : List Piece → Thread → Outcome → List Frame → List Watched → List Watched
moved pieces after (Moved flow) frames threads = with_frames threads after (flow_frames pieces after flow frames)
moved pieces after (Exited value) frames threads = without_thread threads after.number
moved pieces after (Stopped fault) frames threads = without_thread threads after.number

-- the threads that an event leaves, unless it broke a rule
abbrev pub ruled : Option Rule → ℕ → List Watched → Watching → Watching
ruled None thread threads w = record w { threads = threads }
ruled (Some rule) thread threads w = broken w thread rule

abbrev pub step_ruled : Sight → (before after : Thread) → Outcome → List Frame → Watching → Watching
step_ruled sight before after outcome frames w =
    ruled (step_rule sight before after frames outcome) after.number
    (moved sight.pieces after outcome frames w.threads) w

unfoldable pub advanced : Sight → (before after : Thread) → Outcome → Watching → Watching
advanced sight before after outcome w =
    unless_broken w.verdict (step_ruled sight before after outcome (frames_at w.threads before.number)) (counted w)

abbrev pub start_ruled : Sight → Thread → Watching → Watching
start_ruled sight thread w =
    ruled (broken_unless (has_window (sight.view thread.pc)) rules.Start) thread.number
    (with_started w.threads thread) w

unfoldable pub begun : Sight → Thread → Watching → Watching
begun sight thread w = unless_broken w.verdict (start_ruled sight thread) (counted w)

-- the lesser of two numbers, each of which may be missing
abbrev pub lesser_of : Option ℕ → Option ℕ → Option ℕ
lesser_of found None = found
lesser_of found (Some number) = lesser found number
