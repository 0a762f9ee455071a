-- Round robin: which thread steps next.
use Rattle.std.specs.Prelude.{ℕ, ◌+◌, ◌-◌, Bool, ◌&&◌, nat_lt, ◌==◌, if◌then◌else◌, List, Option, Some, None, is_some}
use Rattle.std.specs.Option.{option_map, option_or}
use Rattle.std.specs.List.{find, slice_get}
use Rattle.ia32_step.specs.declared.types.Thread.{Thread}
use Rattle.image_threads.specs.Program.{running_at, running_numbers}
use Rattle.image_threads.specs.declared.turns.Turn.{Turn}

-- how many steps a turn has at most, how many are left in all, and whose turn it is
pub record Schedule : Type 0 where
  pub quantum : ℕ
  pub left : ℕ
  pub turn : Option Turn

-- a turn begins with its first step
abbrev pub begun : ℕ → Turn
begun thread = record { thread = thread; had = 1 }

-- the first of the running threads' numbers, and the first after a number; after the last comes the first again
abbrev pub first_turn : List ℕ → Option Turn
first_turn running = option_map begun (slice_get running 0)

abbrev pub turn_after : List ℕ → ℕ → Option Turn
turn_after running n = option_or (option_map begun (find (nat_lt n) running)) (first_turn running)

-- whether a turn goes on: its thread runs, and has had fewer steps than the quantum
abbrev pub goes_on : List Thread → ℕ → Turn → Bool
goes_on threads quantum turn = is_some (running_at threads turn.thread) && nat_lt turn.had quantum

abbrev pub longer : Turn → Turn
longer turn = record turn { had = turn.had + 1 }

-- the turn of the next step, after the one before it
abbrev pub turn_from : List Thread → ℕ → Option Turn → Option Turn
turn_from threads quantum None = first_turn (running_numbers threads)
turn_from threads quantum (Some turn) =
    if goes_on threads quantum turn then Some (longer turn) else turn_after (running_numbers threads) turn.thread

-- the turn of the next step: none where no step is left or no thread runs
unfoldable pub next_turn : Schedule → List Thread → Option Turn
next_turn schedule threads =
    if schedule.left == 0 then None else turn_from threads schedule.quantum schedule.turn

-- what is left of a schedule after a turn's step; where there is none it is as before
abbrev pub after_turn : Schedule → Option Turn → Schedule
after_turn schedule None = schedule
after_turn schedule (Some turn) = record schedule { left = schedule.left - 1; turn = Some turn }

abbrev pub thread_of : Turn → ℕ
thread_of turn = turn.thread
