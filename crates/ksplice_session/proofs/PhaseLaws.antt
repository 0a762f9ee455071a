-- The phase of a session has no say in its machine and its watch.
use Rattle.std.proofs.Common.{◌≡◌, List, [], ◌∷◌, ◌++◌, Result, Ok, Err, Option, Some, None, refl, sym, ◌∙◌, ap}
use Rattle.ks_base.specs.declared.refusals.Refusal.{Refusal}
use Rattle.splice_jump.specs.declared.phase.Phase.{Phase}
use Rattle.splice_jump.specs.declared.phase.Phase.TheVariants.{Done}
use Rattle.update_stack.specs.Events.{Event, Happened, answered}
use Rattle.ksplice_session.specs.Watching.{Watched, watched_by, watched_after, watched_after_all}
use Rattle.ksplice_session.specs.Answers.{turned, turned_before}
use Rattle.ksplice_session.proofs.WatchedLaws.{watched_after_both}

-- what is left of a session when its phase is passed over
abbrev pub unphased : Watched → Watched
unphased s = record s { phase = Done }

one_unphased : (s : Watched) (event : Event) → unphased (watched_after s event) ≡ watched_after (unphased s) event
unfolding watched_after
one_unphased s event = by (answered s.machine event)
  where
    by : (r : Result Happened Refusal) → unphased (watched_by s event r) ≡ watched_by (unphased s) event r
    by (Err refusal) = refl
    by (Ok now) = refl

pub all_unphased : (s : Watched) (events : List Event)
    → unphased (watched_after_all s events) ≡ watched_after_all (unphased s) events
unfolding watched_after_all
all_unphased s [] = refl
all_unphased s (e ∷ es) =
    all_unphased (watched_after s e) es ∙ ap (λ (x : Watched). watched_after_all x es) (one_unphased s e)

pub turned_unphased : (turns : Option Phase) (s : Watched) → unphased (turned turns s) ≡ unphased s
turned_unphased None s = refl
turned_unphased (Some phase) s = refl

pub before_unphased : (rest : List Event) (turns : Option Phase) (s : Watched)
    → unphased (turned_before rest turns s) ≡ unphased s
before_unphased [] turns s = turned_unphased turns s
before_unphased (e ∷ es) turns s = refl

-- events after others leave the same, whatever the phase was between them
pub onward : (s mid : Watched) (before made : List Event) → unphased mid ≡ unphased (watched_after_all s before)
    → unphased (watched_after_all mid made) ≡ unphased (watched_after_all s (before ++ made))
onward s mid before made there =
    all_unphased mid made
    ∙ ap (λ (x : Watched). watched_after_all x made) there
    ∙ sym (all_unphased (watched_after_all s before) made)
    ∙ ap unphased (sym (watched_after_both s before made))
