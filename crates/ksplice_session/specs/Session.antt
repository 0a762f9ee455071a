-- What a session does: the lines of a script one after another, and how it ends.
use Rattle.std.specs.Prelude.{◌≡◌, ℕ, Bool, false, true, ◌||◌, nat_le, if◌then◌else◌}
use Rattle.std.specs.Prelude.{List, [], ◌∷◌, ◌++◌, codes, length, take, drop, Option, Some, None}
use Rattle.std.specs.List.{fold, flat_map}
use Rattle.ks_base.specs.Text.{shown_name}
use Rattle.ks_io.specs.Outside.{Counts, grown, TookFront, TookPart}
use Rattle.ks_io.specs.Loads.{Needed, Told as ToldFiles, CameTo, first_lacking}
use Rattle.ks_io.specs.declared.types.FileFault.{FileFault}
use Rattle.ks_io.specs.declared.types.FileFault.TheVariants.{Missing, TooLong, Failed, Memory}
use Rattle.script_lines.specs.declared.types.Command.{Command}
use Rattle.ksplice_session.specs.Watching.{Watched}
use Rattle.ksplice_session.specs.declared.types.SessionEnd.{SessionEnd}
use Rattle.ksplice_session.specs.declared.types.SessionEnd.TheVariants.{Done, SomeRefused, FileEnd, SinkEnd, MemoryEnd}
use Rattle.update_stack.specs.Events.{Event}
use Rattle.ksplice_session.specs.Replies.{Told, told_of, files_of}
use Rattle.ksplice_session.specs.Answers.{MadeFront, told_after}

-- a line that was run, and the bytes of its files
pub record Ran : Type 0 where
  pub line : Command
  pub held : List (List ℕ)

-- What was done of a script: the machine with its phase and its watch that the lines leave, their replies together, and
-- whether one was refused.
pub record Played : Type 0 where
  pub session : Watched
  pub output : List ℕ
  pub refused : Bool

abbrev pub nothing_played : Watched → Played
nothing_played k = record { session = k; output = []; refused = false }

abbrev pub with_told : Played → Told → Played
with_told p told = record {
  session = told_after p.session told;
  output = p.output ++ told.reply;
  refused = p.refused || told.refused;
}

abbrev pub play_line : Played → Ran → Played
play_line p ran = with_told p (told_of p.session ran.line ran.held)

abbrev pub held_of : Ran → List (List ℕ)
held_of ran = ran.held

-- the bytes of all files of some lines, in order
abbrev pub held_along : List Ran → List (List ℕ)
held_along ran = flat_map held_of ran

-- lines from a machine with its watch on
unfoldable pub played : Watched → List Ran → Played
played k ran = fold play_line (nothing_played k) ran

-- The events of some lines from a moment on: those of each line at the moment that the lines before it lead to.
unfoldable pub events_along : Watched → List Ran → List Event
events_along k [] = []
events_along k (one ∷ later) =
    let told = told_of k one.line one.held in
    told.events ++ events_along (told_after k told) later

-- all files of a script, in order
unfoldable pub files_along : List Command → List Needed
files_along script = flat_map files_of script

-- The lines of a script that are run where so many of its files are held: those before the first line that lacks a
-- file.
unfoldable pub ran_by : List Command → List (List ℕ) → List Ran
ran_by [] held = []
ran_by (line ∷ lines) held =
    let count = length (files_of line) in
    if nat_le count (length held)
    then record { line = line; held = take count held } ∷ ran_by lines (drop count held)
    else []

abbrev pub lacking : List Command → List (List ℕ) → Option Needed
lacking script held = first_lacking (files_along script) held

-- the events of a script's lines that are run where these of its files are held
abbrev pub script_events : Watched → List Command → List (List ℕ) → List Event
script_events k script held = events_along k (ran_by script held)

abbrev pub session_played : Watched → List Command → List (List ℕ) → Played
session_played k script held = played k (ran_by script held)

-- the line of a file that was not loaded; there is none where memory ran out
abbrev pub file_fault_text : FileFault → List ℕ
file_fault_text Missing = codes "missing"
file_fault_text TooLong = codes "too long"
file_fault_text Failed = codes "failed"
file_fault_text Memory = []

abbrev pub file_line : List ℕ → FileFault → List ℕ
file_line name fault = codes "file " ++ shown_name name ++ codes " " ++ file_fault_text fault ++ 10 ∷ []

abbrev pub lost_line : Option Needed → Option FileFault → List ℕ
lost_line None lost = []
lost_line (Some file) None = []
lost_line (Some file) (Some fault) = file_line file.name fault

-- the whole output: the replies, and the file line where a load ended the session
abbrev pub whole_output : Watched → List Command → List (List ℕ) → Option FileFault → List ℕ
whole_output k script held lost = (session_played k script held).output ++ lost_line (lacking script held) lost

-- lines that were run, one that was begun, and those after it
pub record At (ran : List Ran) : Type 0 where
  pub before : List Ran
  pub line : Ran
  pub behind : List Ran
  pub whole : before ++ line ∷ behind ≡ ran

-- what was done before that line, and what the line does
abbrev pub before_line : {ran : List Ran} → Watched → At ran → Played
before_line k at = played k at.before

abbrev pub told_at : {ran : List Ran} → Watched → At ran → Told
told_at k at = told_of (before_line k at).session at.line.line at.line.held

-- No file of a line after that one was loaded, and none was lost.
pub record NoneBehind (held : List (List ℕ)) (lost : Option FileFault) {ran : List Ran} (at : At ran) : Type 0 where
  pub through : held ≡ held_along at.before ++ at.line.held
  pub none_lost : lost ≡ None

-- How a session ends that began at k, given the files that were held and the fault for which the next was not: what
-- came out, and the machine with its phase and its watch that it leaves.
pub data Ends
    (k : Watched)
    (script : List Command)
    (held : List (List ℕ))
    (lost : Option FileFault)
    (old new : Option (List ℕ))
    (now : Watched)
    : SessionEnd → Type 0 where
  -- all lines were run, and none was refused
  AllDone : lacking script held ≡ None →
      (session_played k script held).refused ≡ false →
      new ≡ grown old (session_played k script held).output →
      now ≡ (session_played k script held).session →
      Ends k script held lost old new now Done
  -- all were run, and at least one was refused
  AllRun : lacking script held ≡ None →
      (session_played k script held).refused ≡ true →
      new ≡ grown old (session_played k script held).output →
      now ≡ (session_played k script held).session →
      Ends k script held lost old new now SomeRefused
  -- a load failed; the lines before it were run, and the file's line was written
  FileStopped : (file : Needed) (fault : FileFault) →
      lacking script held ≡ Some file →
      lost ≡ Some fault →
      new ≡ grown old ((session_played k script held).output ++ file_line file.name fault) →
      now ≡ (session_played k script held).session →
      Ends k script held lost old new now FileEnd
  -- the sink failed at a line's reply; the line was run
  SinkStopped : (at : At (ran_by script held)) →
      NoneBehind held lost at →
      TookPart (grown old (before_line k at).output) (told_at k at).reply new →
      now ≡ told_after (before_line k at).session (told_at k at) →
      Ends k script held lost old new now SinkEnd
  -- or at the line of a file; the lines before it were run
  SinkAtFile : (file : Needed) (fault : FileFault) →
      lacking script held ≡ Some file →
      lost ≡ Some fault →
      TookPart (grown old (session_played k script held).output) (file_line file.name fault) new →
      now ≡ (session_played k script held).session →
      Ends k script held lost old new now SinkEnd
  -- Memory ran out in a line: a prefix of its events was made, and nothing of its reply came out.
  MemoryInLine : (at : At (ran_by script held)) →
      NoneBehind held lost at →
      new ≡ grown old (before_line k at).output →
      MadeFront (before_line k at).session (told_at k at).events (told_at k at).turns now →
      Ends k script held lost old new now MemoryEnd
  -- Or when it had been run, before its reply was wholly written.
  MemoryAfterLine : (at : At (ran_by script held)) →
      NoneBehind held lost at →
      TookPart (grown old (before_line k at).output) (told_at k at).reply new →
      now ≡ told_after (before_line k at).session (told_at k at) →
      Ends k script held lost old new now MemoryEnd
  -- Or at a load, or in the line of the file that wasn't loaded; the lines before it were run.
  MemoryAtFile : (file : Needed) →
      lacking script held ≡ Some file →
      TookFront (grown old (session_played k script held).output) (lost_line (Some file) lost) new →
      now ≡ (session_played k script held).session →
      Ends k script held lost old new now MemoryEnd

-- What a session's loads came to, and how it ends.
pub record SessionEnds
    (told : ToldFiles)
    (k : Watched)
    (script : List Command)
    (before after : Counts)
    (old new : Option (List ℕ))
    (now : Watched)
    (end : SessionEnd)
    : Type 0 where
  pub held : List (List ℕ)
  pub lost : Option FileFault
  pub loads : CameTo told (files_along script) held lost before after
  pub ends : Ends k script held lost old new now end
  -- however it ends, no more has come out than a prefix of the whole output
  pub front : TookFront old (whole_output k script held lost) new
