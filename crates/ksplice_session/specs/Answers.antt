-- What running a line of a script comes to.
use Rattle.std.specs.Prelude.{◌≡◌, ℕ, List, [], ◌∷◌, ◌++◌, Option, Some, None, Result, Ok, Err}
use Rattle.std.specs.declared.alloc.AllocError.{AllocError}
use Rattle.splice_jump.specs.declared.phase.Phase.{Phase}
use Rattle.update_stack.specs.Events.{Event, Spawn, after_events}
use Rattle.ksplice_session.specs.declared.types.Answer.{Answer}
use Rattle.ksplice_session.specs.Watching.{Watched, watched_after_all}
use Rattle.ksplice_session.specs.Replies.{Told}

-- a session in the phase that a line leaves, where it changes it
abbrev pub turned : Option Phase → Watched → Watched
turned None s = s
turned (Some phase) s = record s { phase = phase }

-- The phase changes with the last of a line's events, and at once where it has none.
abbrev pub turned_before : List Event → Option Phase → Watched → Watched
turned_before [] turns s = turned turns s
turned_before (event ∷ rest) turns s = s

-- A prefix of some events was made, and the phase changed where all were. Where the last that was made is a start, the
-- watch may lack it. A line without events that changes the phase has done so before memory runs out for its reply: the
-- write takes none.
pub data MadeFront (s : Watched) (events : List Event) (turns : Option Phase) (now : Watched) : Type 0 where
  Noted : (made rest : List Event) → made ++ rest ≡ events
      → now ≡ turned_before rest turns (watched_after_all s made)
      → MadeFront s events turns now
  Unnoted : (made rest : List Event) (name : List ℕ) (argument : ℕ)
      → made ++ Spawn name argument ∷ rest ≡ events
      → now ≡ record (watched_after_all s made) {
        machine = after_events s.machine (made ++ Spawn name argument ∷ []);
      }
      → MadeFront s events turns now

-- the session after a line: after all of its events, in the phase that it leaves
abbrev pub told_after : Watched → Told → Watched
told_after s told = turned told.turns (watched_after_all s told.events)

-- what a line tells, as the answer to it
abbrev pub answer_of : Told → Answer
answer_of told = record { line = told.reply; refused = told.refused }

-- All of the line's events were made, and this is its answer; or memory ran out when a prefix of them had been made.
abbrev pub Answers : Watched → Told → Watched → Result Answer AllocError → Type 0
Answers s told now (Ok answer) = (answer ≡ answer_of told) × (now ≡ told_after s told)
Answers s told now (Err _) = MadeFront s told.events told.turns now
