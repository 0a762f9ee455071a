-- Turns as wholes: what is left to be done where each is over.
use Rattle.std.specs.Prelude.{◌≡◌, ℕ, ◌≤◌, IfSome, List, Option}
use Rattle.std.specs.Option.{option_map}
use Rattle.image_threads.specs.Turning.{Schedule}
use Rattle.image_threads.specs.declared.turns.Turn.{Turn}
use Rattle.update_stack.specs.AbstractMachine.{AbstractMachine}
use Rattle.update_stack.specs.Events.{Event}
use Rattle.ksplice_session.specs.Running.{turn_steps}

-- a turn that has had all its steps
abbrev pub ended : ℕ → Turn → Turn
ended quantum turn = record turn { had = quantum }

-- the steps of the turns after one that is over, so many of them at most
abbrev pub steps_after : (quantum n : ℕ) → Option Turn → AbstractMachine → List Event
steps_after quantum n turn k = turn_steps quantum n (option_map (ended quantum) turn) k

-- a schedule by which each turn is one step: it says which thread has the next turn
pub record IsOrder (order : Schedule) : Type 0 where
  pub single : order.quantum ≡ 1
  pub some : IfSome order.turn (λ turn. 1 ≤ turn.had)
