-- What the line `watch` prints is the premise of the laws on disciplined runs.
use Rattle.std.specs.Prelude.{◌≡◌, ◌↔◌, ℕ, List, codes}
use Rattle.script_lines.specs.declared.types.Command.TheVariants.{Watch}
use Rattle.ksplice_session.specs.Watching.{Watched, watched_after_all, IsDisciplined}
use Rattle.ksplice_session.specs.Replies.{told_of}
use Rattle.ksplice_session.specs.Session.{Ran, played, events_along}

-- what the line `watch` replies after some lines
abbrev pub watch_reply : Watched → List Ran → List (List ℕ) → List ℕ
watch_reply k before held = (told_of (played k before).session Watch held).reply

-- Lines leave the machine and the watch that their events leave, whatever phase they leave; and after them the line
-- `watch` says `watch disciplined` exactly where each of these events has kept the four rules.
pub record TellsDiscipline (k : Watched) (before : List Ran) (held : List (List ℕ)) : Type 0 where
  pub machine : (played k before).session.machine ≡ (watched_after_all k (events_along k before)).machine
  pub watch : (played k before).session.watch ≡ (watched_after_all k (events_along k before)).watch
  pub told : (watch_reply k before held ≡ codes "watch disciplined\n") ↔ IsDisciplined k (events_along k before)
