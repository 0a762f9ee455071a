-- The discipline: four rules that each event has to keep, in their order start, return, arrival and slot. An event is
-- seen with what a thread meets at each address after it, and with the memory then.
use Rattle.std.specs.Prelude.{ℕ, ◌+◌, ◌-◌, ◌^◌, min, Bool, false, not, ◌&&◌, ◌==◌}
use Rattle.std.specs.Prelude.{if◌then◌else◌, List, [], map, Option, Some, None}
use Rattle.std.specs.List.{filter, fold, last_or}
use Rattle.image_memory.specs.declared.types.Piece.{Piece}
use Rattle.image_memory.specs.Contents.{Contents}
use Rattle.image_memory.specs.Fetch.{View, has_window, view_at}
use Rattle.ia32_step.specs.declared.types.Frame.{Frame}
use Rattle.ia32_step.specs.declared.types.Thread.{Thread}
use Rattle.ia32_step.specs.declared.types.Flow.TheVariants.{Plain, Call, Return}
use Rattle.ia32_step.specs.declared.types.Outcome.{Outcome}
use Rattle.ia32_step.specs.declared.types.Outcome.TheVariants.{Moved, Exited, Stopped}
use Rattle.ia32_step.specs.Threads.{esp_of}
use Rattle.frame_watch.specs.declared.types.Rule.{Rule}
use Rattle.frame_watch.specs.declared.types.Rule.TheVariants as rules
use Rattle.frame_watch.specs.declared.types.Verdict.{Verdict}
use Rattle.frame_watch.specs.declared.types.Verdict.TheVariants.{Disciplined, Broken}
use Rattle.frame_watch.specs.Frames.{Watched, Watching, with_started, frames_at}
use Rattle.frame_watch.specs.Frames.{with_frames, without_thread, opened, closed}
use Rattle.frame_watch.specs.Frames.{keeps_slots}

-- what is met at each address, and the memory
pub record Sight : Type 0 where
  pub view : ℕ → View
  pub pieces : List Piece

-- those of a memory
abbrev pub sight_of : Contents → Sight
sight_of contents = record { view = view_at contents; pieces = contents.pieces }

-- one event more; the count stops at the greatest number of 64 bits
abbrev pub counted : Watching → Watching
counted w = record w { events = min (w.events + 1) (2 ^ 64 - 1) }

-- A rule was broken by this event, of a thread: from now on no frames are kept, and events are only counted.
abbrev pub broken : Watching → ℕ → Rule → Watching
broken w thread rule = record w { threads = []; verdict = Broken w.events thread rule }

-- the threads with a frame that breaks the slot rule, and the least of some numbers
abbrev pub number_of : Watched → ℕ
number_of watched = watched.thread

abbrev pub breaking : List Piece → List Watched → List ℕ
breaking pieces threads = map number_of (filter (λ watched. not (keeps_slots pieces watched)) threads)

abbrev pub lesser : Option ℕ → ℕ → Option ℕ
lesser None n = Some n
lesser (Some m) n = Some (min m n)

abbrev pub least : List ℕ → Option ℕ
least numbers = fold lesser None numbers

abbrev pub slot_broken : Watching → Option ℕ → Watching
slot_broken w None = w
slot_broken w (Some thread) = broken w thread rules.Slot

-- The slot rule over all running threads. Its thread is the least-numbered one that has a broken frame.
unfoldable pub slots_tested : Sight → Watching → Watching
slots_tested sight w = slot_broken w (least (breaking sight.pieces w.threads))

-- start: the pc of a started thread has a window
abbrev pub after_start : Sight → Thread → Watching → Watching
after_start sight thread w =
    if has_window (sight.view thread.pc) then slots_tested sight (record w { threads = with_started w.threads thread })
    else broken w thread.number rules.Start

-- return: it pops the last frame's slot, and its new pc is that frame's address
abbrev pub pops : (esp pc : ℕ) → Option Frame → Bool
pops esp pc None = false
pops esp pc (Some last) = (last.slot == esp) && (last.address == pc)

abbrev pub after_return : Sight → (before after : Thread) → List Frame → Watching → Watching
after_return sight before after frames w =
    if pops (esp_of before) after.pc (last_or None frames)
    then slots_tested sight (record w { threads = with_frames w.threads after (closed frames) })
    else broken w after.number rules.Return

-- arrival: after every other step the new pc has a window
abbrev pub after_arrival : Sight → (after : Thread) → List Frame → Watching → Watching
after_arrival sight after frames w =
    if has_window (sight.view after.pc)
    then slots_tested sight (record w { threads = with_frames w.threads after frames })
    else broken w after.number rules.Arrival

-- A step by its outcome. An exit or a stop drops the thread's frames, and breaks no rule about that thread.
abbrev pub after_outcome : Sight → (before after : Thread) → List Frame → Outcome → Watching → Watching
after_outcome sight before after frames (Moved Return) w = after_return sight before after frames w
after_outcome sight before after frames (Moved Call) w = after_arrival sight after (opened sight.pieces after frames) w
after_outcome sight before after frames (Moved Plain) w = after_arrival sight after frames w
after_outcome sight before after frames (Exited value) w =
    slots_tested sight (record w { threads = without_thread w.threads after.number })
after_outcome sight before after frames (Stopped fault) w =
    slots_tested sight (record w { threads = without_thread w.threads after.number })

abbrev pub unless_broken : Verdict → (Watching → Watching) → Watching → Watching
unless_broken Disciplined next w = next w
unless_broken (Broken event thread rule) next w = w

-- Each event is counted. A thread was started; a thread made a step; an update was accepted or taken back, which moves
-- no thread and changes no stack.
unfoldable pub spawn_noted : Sight → Thread → Watching → Watching
spawn_noted sight thread w = unless_broken w.verdict (after_start sight thread) (counted w)

unfoldable pub step_noted : Sight → (before after : Thread) → Outcome → Watching → Watching
step_noted sight before after outcome w =
    unless_broken w.verdict (after_outcome sight before after (frames_at w.threads before.number) outcome) (counted w)

abbrev pub update_noted : Watching → Watching
update_noted w = counted w

-- Functions were run at an update that was accepted, and may have written any stack: the slots of all threads are looked
-- at.
unfoldable pub hooks_noted : Sight → Watching → Watching
hooks_noted sight w = unless_broken w.verdict (slots_tested sight) (counted w)
