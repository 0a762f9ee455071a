-- What comes of the lines of a script, one after another.
use Rattle.std.specs.Prelude.{◌≡◌, ℕ, Bool, if◌then◌else◌, List, [], ◌∷◌, length, map, Option, None, Result, Ok, Err}
use Rattle.ks_io.specs.Outside.{Counts, grown}
use Rattle.ks_io.specs.Loads.{Told as ToldFiles, CameTo}
use Rattle.script_lines.specs.declared.types.Command.{Command}
use Rattle.ksplice_session.specs.Watching.{Watched}
use Rattle.ksplice_session.specs.declared.types.SessionEnd.{SessionEnd}
use Rattle.ksplice_session.specs.declared.types.SessionEnd.TheVariants.{Done, SomeRefused}
use Rattle.ksplice_session.specs.Replies.{files_of}
use Rattle.ksplice_session.specs.Session.{Ran, held_along, played, files_along, SessionEnds}

abbrev pub line_of : Ran → Command
line_of ran = ran.line

-- a line has all its files
abbrev pub IsFiled : Ran → Type 0
IsFiled ran = length ran.held ≡ length (files_of ran.line)

abbrev pub AreFiled : List Ran → Type 0
AreFiled [] = Unit {0}
AreFiled (r ∷ rs) = IsFiled r × AreFiled rs

-- lines that were run, each with all its files
pub record HaveRun
    (files : ToldFiles)
    (k : Watched)
    (script : List Command)
    (before after : Counts)
    (old new : Option (List ℕ))
    (now : Watched)
    (refused : Bool)
    : Type 0 where
  pub ran : List Ran
  pub lines : map line_of ran ≡ script
  pub filed : AreFiled ran
  pub loads : CameTo files (files_along script) (held_along ran) None before after
  pub marked : refused ≡ (played k ran).refused
  pub taken : new ≡ grown old (played k ran).output
  pub session : now ≡ (played k ran).session

-- All lines were run, and at least one was refused or none; or the session ended.
abbrev pub ScriptEnds : ToldFiles → Watched → List Command → Counts → Counts → Option (List ℕ) → Option (List ℕ) →
    Watched → Result Bool SessionEnd → Type 0
ScriptEnds files k script before after old new now (Ok refused) =
    HaveRun files k script before after old new now refused
ScriptEnds files k script before after old new now (Err end) =
    SessionEnds files k script before after old new now end

-- how the session ends whose lines were all run, or that a line ended
abbrev pub script_end : Result Bool SessionEnd → SessionEnd
script_end (Ok refused) = if refused then SomeRefused else Done
script_end (Err end) = end
