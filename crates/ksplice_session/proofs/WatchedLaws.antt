-- The machine of a watched run is that of the run.
use Rattle.std.proofs.Common.{◌≡◌, List, [], ◌∷◌, ◌++◌, Result, Ok, Err, refl, ◌∙◌, ap}
use Rattle.std.proofs.lemmas.List.Sums.{fold-append}
use Rattle.ks_base.specs.declared.refusals.Refusal.{Refusal}
use Rattle.update_stack.specs.AbstractMachine.{AbstractMachine}
use Rattle.update_stack.specs.Events.{Event, Happened, answered, machine_after, after_event, after_events}
use Rattle.frame_watch.specs.Frames.{Watching}
use Rattle.ksplice_session.specs.Watching.{Watched, watched_by, watched_after, watched_after_all}

-- a session with another machine and watch, in its phase
abbrev pub watched : Watched → AbstractMachine → Watching → Watched
watched s machine watch = record s { machine = machine; watch = watch }

pub machine_after_one : (s : Watched) (event : Event) → (watched_after s event).machine ≡ after_event s.machine event
unfolding watched_after after_event
machine_after_one s event = by (answered s.machine event)
  where
    by : (r : Result Happened Refusal) → (watched_by s event r).machine ≡ machine_after s.machine r
    by (Err refusal) = refl
    by (Ok now) = refl

pub machine_after_all : (s : Watched) (events : List Event)
    → (watched_after_all s events).machine ≡ after_events s.machine events
unfolding watched_after_all after_events
machine_after_all s [] = refl
machine_after_all s (e ∷ es) =
    machine_after_all (watched_after s e) es ∙ ap (λ k. after_events k es) (machine_after_one s e)

-- events after events
pub watched_after_both : (s : Watched) (gap events : List Event)
    → watched_after_all s (gap ++ events) ≡ watched_after_all (watched_after_all s gap) events
unfolding watched_after_all
watched_after_both s gap events = fold-append watched_after s gap events

pub after_one : (s : Watched) (events : List Event) (event : Event)
    → watched_after_all s (events ++ event ∷ []) ≡ watched_after (watched_after_all s events) event
unfolding watched_after_all
after_one s events event = watched_after_both s events (event ∷ [])
