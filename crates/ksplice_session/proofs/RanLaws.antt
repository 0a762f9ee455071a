-- A session that ran from the start of an image: which events it made, and what their discipline is good for.
use Rattle.std.proofs.Common.{◌≡◌, ◌⊎◌, inl, inr, ℕ, List, [], ◌∷◌, ◌++◌, Option, Ok, refl, sym}
use Rattle.std.proofs.Common.{◌∙◌, ap, subst, append_assoc, append-nil}
use Rattle.std.specs.List.{fold}
use Rattle.ks_io.specs.declared.types.FileFault.{FileFault}
use Rattle.image_file.specs.Reading.{Contents as Image, image_of}
use Rattle.script_lines.specs.declared.types.Command.{Command}
use Rattle.splice_jump.specs.declared.phase.Phase.{Phase}
use Rattle.update_stack.specs.Events.{Event, Spawn, Step, after_events}
use Rattle.ksplice_session.specs.declared.types.SessionEnd.{SessionEnd}
use Rattle.ksplice_session.specs.Watching.{Watched, first_watched, watched_after_all, IsDisciplined}
use Rattle.ksplice_session.specs.Replies.{told_of}
use Rattle.ksplice_session.specs.Answers.{MadeFront, Noted, Unnoted, told_after}
use Rattle.ksplice_session.specs.Session.{Ran, Played, nothing_played, play_line, played, ran_by}
use Rattle.ksplice_session.specs.Session.{events_along, script_events, session_played, At, told_at}
use Rattle.ksplice_session.specs.Session.{Ends, AllDone, AllRun, FileStopped, SinkStopped, SinkAtFile, MemoryInLine}
use Rattle.ksplice_session.specs.Session.{MemoryAfterLine, MemoryAtFile}
use Rattle.ksplice_session.specs.Safety.{OpenFramesKeepWindows, NoReturnIsLost, IsSafe, HasStartedMore, RanSafely}
use Rattle.ksplice_session.proofs.WatchedLaws.{machine_after_all}
use Rattle.ksplice_session.proofs.PhaseLaws.{unphased, before_unphased, onward}
use Rattle.ksplice_session.proofs.PremiseLaws.{lines_are_their_events}
use Rattle.ksplice_session.proofs.OpenFrames.{front_disciplined}

-- the events that were noted, and made, as a prefix of others
record Made (s now : Watched) (events : List Event) : Type 0 where
  noted : List Event
  rest : List Event
  front : noted ++ rest ≡ events
  watch : now.watch ≡ (watched_after_all s noted).watch
  machine : (now.machine ≡ after_events s.machine noted) ⊎ HasStartedMore s.machine noted rest now.machine

all_made : (s now : Watched) (made rest events : List Event) → made ++ rest ≡ events
    → unphased now ≡ unphased (watched_after_all s made) → Made s now events
all_made s now made rest events front is =
    record {
      noted = made;
      rest = rest;
      front = front;
      watch = ap (λ (x : Watched). x.watch) is;
      machine = inl (ap (λ (x : Watched). x.machine) is ∙ machine_after_all s made);
    }

-- a prefix of what lies between some events and others
between : (before made left events rest whole : List Event) → made ++ left ≡ events → before ++ (events ++ rest) ≡ whole
    → (before ++ made) ++ (left ++ rest) ≡ whole
between before made left events rest whole front is =
    append_assoc before made (left ++ rest)
    ∙ ap (λ (l : List Event). before ++ l)
    (sym (append_assoc made left rest) ∙ ap (λ (l : List Event). l ++ rest) front)
    ∙ is

-- a prefix of some events that were made after others
front_made : (s mid now : Watched) (before events : List Event) (turns : Option Phase) (rest whole : List Event)
    → before ++ (events ++ rest) ≡ whole
    → unphased mid ≡ unphased (watched_after_all s before) → MadeFront mid events turns now → Made s now whole
front_made s mid now before events turns rest whole of there (Noted made left front is) =
    all_made s now (before ++ made) (left ++ rest) whole (between before made left events rest whole front of)
    (ap unphased is ∙ before_unphased left turns (watched_after_all mid made) ∙ onward s mid before made there)
front_made s mid now before events turns rest whole of there (Unnoted made left name argument front is) =
    record {
      noted = before ++ made;
      rest = Spawn name argument ∷ (left ++ rest);
      front = between before made (Spawn name argument ∷ left) events rest whole front of;
      watch = ap (λ (x : Watched). x.watch) is ∙ ap (λ (x : Watched). x.watch) (onward s mid before made there);
      machine =
          inr (record { name = name; argument = argument; behind = left ++ rest; next = refl; machine = started });
    }
  where
    more : List Event
    more = made ++ Spawn name argument ∷ []

    started : now.machine ≡ after_events s.machine ((before ++ made) ++ Spawn name argument ∷ [])
    started =
        ap (λ (x : Watched). x.machine) is ∙ sym (machine_after_all mid more)
        ∙ ap (λ (x : Watched). x.machine) (onward s mid before more there)
        ∙ machine_after_all s (before ++ more)
        ∙ ap (after_events s.machine) (sym (append_assoc before made (Spawn name argument ∷ [])))

-- the events of lines, and of those after them
along-append : (p : Played) (ran later : List Ran)
    → events_along p.session (ran ++ later)
    ≡ events_along p.session ran ++ events_along (fold play_line p ran).session later
unfolding events_along
along-append p [] later = refl
along-append p (r ∷ ran) later =
    let made = (told_of p.session r.line r.held).events in
    let next = play_line p r in
    ap (λ (l : List Event). made ++ l) (along-append next ran later)
    ∙ sym (append_assoc made (events_along next.session ran) (events_along (fold play_line next ran).session later))

-- the events of lines are those before one of them, those of that line, and those after it
along-at : (k : Watched) {ran : List Ran} (at : At ran)
    → events_along k at.before ++ ((told_at k at).events
    ++ events_along (told_after (played k at.before).session (told_at k at)) at.behind)
    ≡ events_along k ran
unfolding events_along played
along-at k at =
    sym (along-append (nothing_played k) at.before (at.line ∷ at.behind)) ∙ ap (events_along k) at.whole

module _ (k now : Watched) (script : List Command) (held : List (List ℕ)) (lost : Option FileFault)
    (old new : Option (List ℕ)) where
  abbrev ran : List Ran
  ran = ran_by script held

  after_played : now ≡ (session_played k script held).session → Made k now (events_along k ran)
  after_played is =
      all_made k now (events_along k ran) [] (events_along k ran) (append-nil (events_along k ran))
      (ap unphased is ∙ lines_are_their_events k ran)

  in_line : (at : At ran) → MadeFront (played k at.before).session (told_at k at).events (told_at k at).turns now
      → Made k now (events_along k ran)
  in_line at front =
      front_made k (played k at.before).session now (events_along k at.before) (told_at k at).events
      (told_at k at).turns _ (events_along k ran) (along-at k at) (lines_are_their_events k at.before) front

  after_line : (at : At ran) → now ≡ told_after (played k at.before).session (told_at k at)
      → Made k now (events_along k ran)
  after_line at is = in_line at (Noted (told_at k at).events [] (append-nil (told_at k at).events) is)

  by_end : (end : SessionEnd) → Ends k script held lost old new now end → Made k now (events_along k ran)
  by_end _ (AllDone none unrefused taken is) = after_played is
  by_end _ (AllRun none refused taken is) = after_played is
  by_end _ (FileStopped file fault none is_lost taken is) = after_played is
  by_end _ (SinkStopped at behind part is) = after_line at is
  by_end _ (SinkAtFile file fault none is_lost part is) = after_played is
  by_end _ (MemoryInLine at behind taken front) = in_line at front
  by_end _ (MemoryAfterLine at behind part is) = after_line at is
  by_end _ (MemoryAtFile file none part is) = after_played is

-- what the laws give for one list of events
safe_list : OpenFramesKeepWindows → NoReturnIsLost → (file : List ℕ) (image : Image) → image_of file ≡ Ok image
    → (events : List Event) → IsDisciplined (first_watched image) events → IsSafe (first_watched image) events
safe_list frames returns file image read events now =
    record {
      frames = λ before later behind thread called whole calls at window stays.
          frames file image before later thread called read
          (front_disciplined first (before ++ Step thread ∷ later) behind
          (subst (IsDisciplined first) (sym (append_assoc before (Step thread ∷ later) behind ∙ whole)) now))
          calls at window stays;
      returns = λ before behind thread whole stops.
          returns file image before thread read
          (front_disciplined first (before ++ Step thread ∷ []) behind
          (subst (IsDisciplined first) (sym (append_assoc before (Step thread ∷ []) behind ∙ whole)) now))
          stops;
    }
  where
    first : Watched
    first = first_watched image

pub ran_safely : OpenFramesKeepWindows → NoReturnIsLost → (k now : Watched)
    (script : List Command) (old new : Option (List ℕ)) (end : SessionEnd)
    (file : List ℕ) (image : Image) (held : List (List ℕ)) (lost : Option FileFault)
    → image_of file ≡ Ok image → k ≡ first_watched image
    → Ends k script held lost old new now end → RanSafely k (script_events k script held) now
ran_safely frames returns k now script old new end file image held lost read first ends =
    let made : Made k now (script_events k script held) = by_end k now script held lost old new end ends in
    record {
      noted = made.noted;
      rest = made.rest;
      front = made.front;
      watch = made.watch;
      machine = made.machine;
      safe = λ front behind whole.
          subst (λ (s : Watched). IsDisciplined s front → IsSafe s front) (sym first)
          (safe_list frames returns file image read front);
    }
