-- What each line of a script does, as the list of its events, and what it replies.
use Rattle.std.specs.Prelude.{ℕ, zero, suc, ◌+◌, ◌-◌, Bool, true, false, if◌then◌else◌, List, [], ◌∷◌, ◌++◌, length}
use Rattle.std.specs.Prelude.{map, is_some, Option, Some, None, Result, Ok, Err}
use Rattle.std.specs.List.{slice_get}
use Rattle.ks_base.specs.declared.refusals.Refusal.{Refusal}
use Rattle.ks_base.specs.declared.reports.Report.{Report}
use Rattle.ks_base.specs.declared.reports.HookReport.{HookReport}
use Rattle.ks_base.specs.declared.refusals.Refusal.TheVariants.{NoThread, Busy}
use Rattle.ks_base.specs.Refusals.{refusal_line}
use Rattle.ks_io.specs.Loads.{Needed}
use Rattle.symbol_table.specs.declared.symbols.Symbol.{Symbol}
use Rattle.ia32_step.specs.declared.types.Thread.{Thread}
use Rattle.image_threads.specs.Program.{running_at}
use Rattle.script_lines.specs.declared.types.Command.{Command}
use Rattle.script_lines.specs.declared.types.Command.TheVariants.{Spawn, Step, RoundRobin, Threads, Peek}
use Rattle.script_lines.specs.declared.types.Command.TheVariants.{Apply, Hooks, Poke, Tail, Seal, Undo, UndoNamed}
use Rattle.script_lines.specs.declared.types.Command.TheVariants.{ListUpdates, Watch}
use Rattle.splice_jump.specs.declared.phase.Phase.{Phase}
use Rattle.update_stack.specs.AbstractMachine.{AbstractMachine, shown_update}
use Rattle.update_stack.specs.Events.{Event, Spawn as SpawnEvent, Apply as ApplyEvent, Hooks as HooksEvent}
use Rattle.update_stack.specs.Events.{Undo as UndoEvent, UndoNamed as UndoNamedEvent, after_events}
use Rattle.update_stack.specs.Steps.{spawned}
use Rattle.update_stack.specs.Apply.{applied}
use Rattle.update_stack.specs.Hooks.{hooked}
use Rattle.update_stack.specs.Undo.{undone, undone_named}
use Rattle.update_stack.specs.Phases.{Phased, phased, patched_in}
use Rattle.live_poke.specs.Poke.{open_refusal, newest_name, marked, tailed, sealed}
use Rattle.frame_watch.specs.declared.types.Verdict.{Verdict}
use Rattle.ksplice_session.specs.Watching.{Watched}
use Rattle.ksplice_session.specs.Lines.{spawned_line, stepped_line, turns_line, threads_lines, peek_line}
use Rattle.ksplice_session.specs.Lines.{applied_lines, hooked_lines, marked_lines, tailed_line, sealed_line}
use Rattle.ksplice_session.specs.Lines.{undone_line, list_lines, watch_line}
use Rattle.ksplice_session.specs.Running.{thread_steps, round_robin}

-- a line's events in order; the phase that it leaves, where it changes it; its reply, and whether that is a refusal
pub record Told : Type 0 where
  pub events : List Event
  pub turns : Option Phase
  pub reply : List ℕ
  pub refused : Bool

abbrev pub replied : List Event → List ℕ → Told
replied events reply = record { events = events; turns = None; reply = reply; refused = false }

abbrev pub refused_after : List Event → Refusal → Told
refused_after events refusal =
    record { events = events; turns = None; reply = refusal_line refusal; refused = true }

-- what a line tells that leaves a phase
abbrev pub turning : Phase → Told → Told
turning phase told = record told { turns = Some phase }

abbrev pub told_unless : Option Refusal → Told → Told
told_unless None told = told
told_unless (Some refusal) told = refused_after [] refusal

-- what a thread of a machine shows
abbrev pub shown_by : AbstractMachine → (List Symbol → Thread → List ℕ) → Option Thread → List ℕ
shown_by k line None = []
shown_by k line (Some thread) = line k.symbols thread

abbrev pub shown : AbstractMachine → ℕ → (List Symbol → Thread → List ℕ) → List ℕ
shown k number line = shown_by k line (slice_get k.threads number)

-- A line that starts a thread, by what that comes to: the new thread has this number. Where it is refused, nothing
-- happened.
abbrev pub spawn_told : Event → (number : ℕ) → Result AbstractMachine Refusal → Told
spawn_told event number (Err refusal) = refused_after [] refusal
spawn_told event number (Ok now) = replied (event ∷ []) (shown now number spawned_line)

-- a line that takes an update back, by what that comes to
abbrev pub undo_told : Event → Result (AbstractMachine × List ℕ) Refusal → Told
undo_told event (Err refusal) = refused_after [] refusal
undo_told event (Ok left) = replied (event ∷ []) (undone_line left.1)

abbrev pub stepped_line_of : ℕ → List Symbol → Thread → List ℕ
stepped_line_of made symbols thread = stepped_line symbols thread made

abbrev pub step_told : AbstractMachine → (thread : ℕ) → List Event → Told
step_told k thread events = replied events (shown (after_events k events) thread (stepped_line_of (length events)))

abbrev pub turns_told : List Event → Told
turns_told events = replied events (turns_line (length events))

-- an update that a line tries to make: its name, and its two files
pub record Trial : Type 0 where
  pub name : List ℕ
  pub pre : List ℕ
  pub post : List ℕ

abbrev pub event_of : Trial → Event
event_of trial = ApplyEvent trial.name trial.pre trial.post

-- what a try comes to: the machine after the update and its report, or why there is none
abbrev pub applied_by : AbstractMachine → Trial → Result (AbstractMachine × Report) Refusal
applied_by k trial = applied k trial.name trial.pre trial.post

-- what a try does, and its reply, which tells its number from 1 on
abbrev pub try_told : Trial → (try : ℕ) → Result (AbstractMachine × Report) Refusal → Told
try_told trial try (Err refusal) = refused_after [] refusal
try_told trial try (Ok left) = replied (event_of trial ∷ []) (applied_lines trial.name try left.1)

-- whether a thread stands in the way; no other refusal is that
abbrev pub is_busy : {A : Type 0} → Result A Refusal → Bool
is_busy (Err (Busy standing)) = true
is_busy _ = false

-- steps, and then what a line does
abbrev pub after_gap : List Event → Told → Told
after_gap gap told = record told { events = gap ++ told.events }

-- The tries of an update from the one numbered `try` on, with `left` more allowed after it. Where a thread stands in
-- the way and another try is allowed, the threads make at most `gap` steps in turn, one at a time, and the update is
-- tried again. Every other refusal ends the line, and after the last try no step is made.
unfoldable pub tried : Trial → (gap try left : ℕ) → AbstractMachine → Told
tried trial gap try zero k = try_told trial try (applied_by k trial)
tried trial gap try (suc left) k =
    if is_busy (applied_by k trial)
    then after_gap (round_robin k 1 gap) (tried trial gap (try + 1) left (after_events k (round_robin k 1 gap)))
    else try_told trial try (applied_by k trial)

-- an update from the first of two files to the second, in at most so many tries; a line has both its files when it is
-- run, so the last case doesn't occur
abbrev pub apply_told : AbstractMachine → (name : List ℕ) (tries gap : ℕ) → List (List ℕ) → Told
apply_told k name tries gap (pre ∷ post ∷ []) =
    tried (record { name = name; pre = pre; post = post }) gap 1 (tries - 1) k
apply_told k name tries gap _ = replied [] []

-- a line that makes an update and runs the functions that its new object lists, by what that comes to
abbrev pub hooked_told : Event → List ℕ → Result (AbstractMachine × HookReport) Refusal → Told
hooked_told event name (Err refusal) = refused_after [] refusal
hooked_told event name (Ok left) = replied (event ∷ []) (hooked_lines name left.1)

-- an update from the first of two files to the second, with functions run
abbrev pub hooks_told : AbstractMachine → (name : List ℕ) → List (List ℕ) → Told
hooks_told k name (pre ∷ post ∷ []) = hooked_told (HooksEvent name pre post) name (hooked k name pre post)
hooks_told k name _ = replied [] []

-- what a line tells, unless an update that is being written stands in its way
abbrev pub unless_open : Phased → Told → Told
unless_open live told = told_unless (open_refusal live) told

-- a line that makes the first write of an update, by what that comes to
abbrev pub mark_told : Event → List ℕ → Result (Phased × Report) Refusal → Told
mark_told event name (Err refusal) = refused_after [] refusal
mark_told event name (Ok left) = turning left.0.phase (replied (event ∷ []) (marked_lines name left.1))

-- a line that makes the second or the third, which is no event of the machine
abbrev pub write_told : (List ℕ → List ℕ) → Result Phased Refusal → Told
write_told line (Err refusal) = refused_after [] refusal
write_told line (Ok now) = turning now.phase (replied [] (line (newest_name now.machine)))

-- an update from the first of two files to the second, in separate writes; a line has both its files when it is run, so
-- the last case doesn't occur
abbrev pub poke_told : Phased → (name : List ℕ) → List (List ℕ) → Told
poke_told live name (pre ∷ post ∷ []) = mark_told (ApplyEvent name pre post) name (marked live name pre post)
poke_told live name _ = replied [] []

-- what a line of a machine in a phase does and replies, once its files are held with these bytes
abbrev pub line_told : Phased → Verdict → Command → List (List ℕ) → Told
line_told live verdict (Spawn name argument) held =
    spawn_told (SpawnEvent name argument) (length live.machine.threads) (spawned live.machine name argument)
line_told live verdict (Step thread n) held =
    if is_some (running_at live.machine.threads thread)
    then step_told live.machine thread (thread_steps live.machine thread n)
    else refused_after [] (NoThread thread)
line_told live verdict (RoundRobin quantum n) held = turns_told (round_robin live.machine quantum n)
line_told live verdict Threads held = replied [] (threads_lines live.machine.symbols live.machine.threads)
line_told live verdict (Peek address count) held =
    replied [] (peek_line (patched_in live.phase live.machine).pieces address count)
line_told live verdict (Apply name pre post tries gap) held =
    unless_open live (apply_told live.machine name tries gap held)
line_told live verdict (Hooks name pre post) held = unless_open live (hooks_told live.machine name held)
line_told live verdict (Poke name pre post) held = poke_told live name held
line_told live verdict Tail held = write_told tailed_line (tailed live)
line_told live verdict Seal held = write_told sealed_line (sealed live)
line_told live verdict Undo held = unless_open live (undo_told UndoEvent (undone live.machine))
line_told live verdict (UndoNamed name) held =
    unless_open live (undo_told (UndoNamedEvent name) (undone_named live.machine name))
line_told live verdict ListUpdates held = replied [] (list_lines (map shown_update live.machine.updates))
line_told live verdict Watch held = replied [] (watch_line verdict)

-- the machine of a session with its phase
abbrev pub live_of : Watched → Phased
live_of s = phased s.machine s.phase

unfoldable pub told_of : Watched → Command → List (List ℕ) → Told
told_of s command held = line_told (live_of s) s.watch.verdict command held

-- the most bytes that an object file may have
abbrev pub object_limit : ℕ
object_limit = 8388608

abbrev pub object_file : List ℕ → Needed
object_file name = record { name = name; limit = object_limit }

-- the files that a line loads before it is run, in order
unfoldable pub files_of : Command → List Needed
files_of (Spawn name argument) = []
files_of (Step thread n) = []
files_of (RoundRobin quantum n) = []
files_of Threads = []
files_of (Peek address count) = []
files_of (Apply name pre post tries gap) = object_file pre ∷ object_file post ∷ []
files_of (Hooks name pre post) = object_file pre ∷ object_file post ∷ []
files_of (Poke name pre post) = object_file pre ∷ object_file post ∷ []
files_of Tail = []
files_of Seal = []
files_of Undo = []
files_of (UndoNamed name) = []
files_of ListUpdates = []
files_of Watch = []
