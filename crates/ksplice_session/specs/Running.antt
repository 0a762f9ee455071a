-- Many steps of one thread, and of the threads in turn, as lists of events.
use Rattle.std.specs.Prelude.{ℕ, zero, suc, if◌then◌else◌, List, [], ◌∷◌, is_some, Option, Some, None}
use Rattle.image_threads.specs.Program.{running_at}
use Rattle.image_threads.specs.Turning.{turn_from}
use Rattle.image_threads.specs.declared.turns.Turn.{Turn}
use Rattle.update_stack.specs.AbstractMachine.{AbstractMachine}
use Rattle.update_stack.specs.Events.{Event, Step, after_event}

-- at most n steps of a thread; the one that ends it counts
unfoldable pub thread_steps : AbstractMachine → (thread n : ℕ) → List Event
thread_steps k thread zero = []
thread_steps k thread (suc n) =
    if is_some (running_at k.threads thread)
    then Step thread ∷ thread_steps (after_event k (Step thread)) thread n
    else []

-- the step of a turn, and the turns after it; there is none where no thread runs
abbrev pub taken : AbstractMachine → (Option Turn → AbstractMachine → List Event) → Option Turn → List Event
taken k rest None = []
taken k rest (Some turn) = Step turn.thread ∷ rest (Some turn) (after_event k (Step turn.thread))

-- At most n steps in turn, after the turn of the step before: each running thread makes at most so many as the quantum,
-- and then the next one by number does.
unfoldable pub turn_steps : (quantum n : ℕ) → Option Turn → AbstractMachine → List Event
turn_steps quantum zero before k = []
turn_steps quantum (suc n) before k = taken k (turn_steps quantum n) (turn_from k.threads quantum before)

abbrev pub round_robin : AbstractMachine → (quantum n : ℕ) → List Event
round_robin k quantum n = turn_steps quantum n None k
