-- Lines of a script are their events, and `watch` prints the verdict on them.
use Rattle.std.proofs.Common.{◌≡◌, ℕ, List, [], ◌∷◌, refl, sym, ap, ◌∙◌}
use Rattle.std.proofs.Common.{Bool, true, false, nat_eq}
use Rattle.std.specs.Prelude.{◌↔◌, codes, take, drop}
use Rattle.std.specs.List.{fold, list_any}
use Rattle.frame_watch.specs.declared.types.Verdict.{Verdict}
use Rattle.frame_watch.specs.declared.types.Verdict.TheVariants.{Disciplined, Broken}
use Rattle.ksplice_session.specs.Watching.{Watched, watched_after_all}
use Rattle.ksplice_session.specs.Replies.{told_of}
use Rattle.ksplice_session.specs.Lines.{watch_line}
use Rattle.ksplice_session.specs.Session.{Ran, Played, nothing_played, play_line, played, events_along}
use Rattle.ksplice_session.specs.Premise.{TellsDiscipline}
use Rattle.ksplice_session.proofs.PhaseLaws.{unphased, turned_unphased, onward}

-- but for the phase
lines_leave : (p : Played) (ran : List Ran)
    → unphased (fold play_line p ran).session ≡ unphased (watched_after_all p.session (events_along p.session ran))
unfolding watched_after_all events_along
lines_leave p [] = refl
lines_leave p (one ∷ later) =
    let told = told_of p.session one.line one.held in
    lines_leave (play_line p one) later
    ∙ onward p.session (play_line p one).session told.events (events_along (play_line p one).session later)
    (turned_unphased told.turns (watched_after_all p.session told.events))

pub lines_are_their_events : (k : Watched) (ran : List Ran)
    → unphased (played k ran).session ≡ unphased (watched_after_all k (events_along k ran))
unfolding played
lines_are_their_events k ran = lines_leave (nothing_played k) ran

-- whether a line of `watch` has a `b` where its verdict begins
abbrev tells_broken : List ℕ → Bool
tells_broken line = list_any (nat_eq 98) (take 1 (drop 6 line))

verdict_told : (verdict : Verdict) → (watch_line verdict ≡ codes "watch disciplined\n") ↔ (verdict ≡ Disciplined)
unfolding watch_line
verdict_told Disciplined = (λ is. refl, λ is. refl)
verdict_told (Broken event thread rule) =
    (λ is. let other : true ≡ false = ap tells_broken is in absurd cc, λ is. absurd cc)

pub tells_discipline : (k : Watched) (before : List Ran) (held : List (List ℕ)) → TellsDiscipline k before held
unfolding told_of
tells_discipline k before held =
    let left = lines_are_their_events k before in
    let both = verdict_told (played k before).session.watch.verdict in
    record {
      machine = ap (λ (s : Watched). s.machine) left;
      watch = ap (λ (s : Watched). s.watch) left;
      told = (
        λ is. sym (ap (λ (s : Watched). s.watch.verdict) left) ∙ both.0 is,
        λ is. both.1 (ap (λ (s : Watched). s.watch.verdict) left ∙ is),
      );
    }
