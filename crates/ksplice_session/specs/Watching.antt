-- The machine, the phase of its newest update, and the watch over its events: which lists of events are disciplined.
use Rattle.std.specs.Prelude.{◌≡◌, ℕ, List, Option, Some, None, Result, Ok, Err}
use Rattle.std.specs.List.{fold, slice_get}
use Rattle.ks_base.specs.declared.refusals.Refusal.{Refusal}
use Rattle.image_file.specs.Reading.{Contents as Image}
use Rattle.ia32_step.specs.declared.types.Thread.{Thread}
use Rattle.ia32_step.specs.declared.types.Outcome.{Outcome}
use Rattle.splice_jump.specs.declared.phase.Phase.{Phase}
use Rattle.splice_jump.specs.declared.phase.Phase.TheVariants.{Done}
use Rattle.update_stack.specs.AbstractMachine.{AbstractMachine, view_in, first_machine}
use Rattle.update_stack.specs.Events.{Event, Step, Answer, Spawned, Stepped, Applied, Hooked, Undone, Happened}
use Rattle.update_stack.specs.Events.{answered}
use Rattle.frame_watch.specs.declared.types.Verdict.TheVariants.{Disciplined}
use Rattle.frame_watch.specs.Frames.{Watching, first_watching}
use Rattle.frame_watch.specs.Discipline.{Sight, spawn_noted, step_noted, hooks_noted, update_noted}

-- the machine, the phase in which a system stands for it, and what was seen of its events
pub record Watched : Type 0 where
  pub machine : AbstractMachine
  pub phase : Phase
  pub watch : Watching

abbrev pub first_watched : Image → Watched
first_watched image = record { machine = first_machine image; phase = Done; watch = first_watching }

-- what is met at each address of the machine, and its memory
abbrev pub sight_in : AbstractMachine → Sight
sight_in k = record { view = view_in k; pieces = k.pieces }

abbrev pub start_seen : Sight → Option Thread → Watching → Watching
start_seen sight None w = w
start_seen sight (Some thread) w = spawn_noted sight thread w

-- the thread that made the step, before and after it
abbrev pub step_seen : Sight → Option Thread → Option Thread → Outcome → Watching → Watching
step_seen sight None after outcome w = w
step_seen sight (Some before) None outcome w = w
step_seen sight (Some before) (Some after) outcome w = step_noted sight before after outcome w

-- the number of the thread whose step an event is
abbrev pub stepping : Event → ℕ
stepping (Step thread) = thread
stepping other = 0

-- the watch after an event, by the machine before and after it and its answer
abbrev pub seen : AbstractMachine → Event → AbstractMachine → Answer → Watching → Watching
seen k event now (Spawned thread) w = start_seen (sight_in now) (slice_get now.threads thread) w
seen k event now (Stepped outcome) w =
    step_seen (sight_in now) (slice_get k.threads (stepping event)) (slice_get now.threads (stepping event)) outcome w
seen k event now (Applied report) w = update_noted w
seen k event now (Hooked done) w = hooks_noted (sight_in now) w
seen k event now (Undone name) w = update_noted w

abbrev pub watched_by : Watched → Event → Result Happened Refusal → Watched
watched_by s event (Err refusal) = s
watched_by s event (Ok now) =
    record s { machine = now.machine; watch = seen s.machine event now.machine now.answer s.watch }

-- The machine and the watch after an event; one that is refused is none. No event of the machine changes the phase.
unfoldable pub watched_after : Watched → Event → Watched
watched_after s event = watched_by s event (answered s.machine event)

-- after a list of events
unfoldable pub watched_after_all : Watched → List Event → Watched
watched_after_all s events = fold watched_after s events

-- Each event of the list keeps the four rules.
abbrev pub IsDisciplined : Watched → List Event → Type 0
IsDisciplined s events = (watched_after_all s events).watch.verdict ≡ Disciplined
