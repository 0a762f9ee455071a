-- What comes of one line of a script.
use Rattle.std.specs.Prelude.{◌≡◌, ℕ, Bool, List, length, Option, Some, None, Result, Ok, Err}
use Rattle.ks_io.specs.Outside.{Counts, grown, TookFront, TookPart}
use Rattle.ks_io.specs.Loads.{Needed, Told as ToldFiles, CameTo, first_lacking, needed_by, outside_fault}
use Rattle.ks_io.specs.declared.types.SinkFault.{SinkFault}
use Rattle.ks_io.specs.declared.types.SinkFault.TheVariants.{SinkFailed, Memory}
use Rattle.ks_io.specs.declared.types.Wanted.{Wanted}
use Rattle.ks_io.specs.declared.types.FileFault.{FileFault}
use Rattle.script_lines.specs.declared.types.Command.{Command}
use Rattle.ksplice_session.specs.Watching.{Watched}
use Rattle.ksplice_session.specs.declared.types.SessionEnd.{SessionEnd}
use Rattle.ksplice_session.specs.declared.types.SessionEnd.TheVariants.{FileEnd, SinkEnd, MemoryEnd}
use Rattle.ksplice_session.specs.Replies.{Told, told_of, files_of}
use Rattle.ksplice_session.specs.Answers.{MadeFront, told_after}
use Rattle.ksplice_session.specs.Session.{file_line, lost_line}

-- How a line ends the session that has its files: the sink failed at its reply, or memory ran out, before its reply or
-- in it.
pub data CutAt (k : Watched) (told : Told) (old new : Option (List ℕ)) (now : Watched) : SessionEnd → Type 0 where
  SinkCut : TookPart old told.reply new → now ≡ told_after k told → CutAt k told old new now SinkEnd
  MemoryCut : TookPart old told.reply new → now ≡ told_after k told → CutAt k told old new now MemoryEnd
  EventsCut : new ≡ old → MadeFront k told.events told.turns now → CutAt k told old new now MemoryEnd

-- How a line ends the session that lacks a file.
pub data LostAt (file : Needed) (lost : Option FileFault) (old new : Option (List ℕ)) : SessionEnd → Type 0 where
  LineWritten : (fault : FileFault) →
      lost ≡ Some fault →
      new ≡ grown old (file_line file.name fault) →
      LostAt file lost old new FileEnd
  SinkLost : (fault : FileFault) →
      lost ≡ Some fault →
      TookPart old (file_line file.name fault) new →
      LostAt file lost old new SinkEnd
  MemoryLost : TookFront old (lost_line (Some file) lost) new → LostAt file lost old new MemoryEnd

-- A line was run and its reply written.
pub record Replied
    (k : Watched)
    (told : Told)
    (old new : Option (List ℕ))
    (now : Watched)
    (refused : Bool)
    : Type 0 where
  pub marked : refused ≡ told.refused
  pub taken : new ≡ grown old told.reply
  pub session : now ≡ told_after k told

-- A line was run with its files, and its reply written.
pub record WasRun
    (files : ToldFiles)
    (k : Watched)
    (line : Command)
    (before after : Counts)
    (old new : Option (List ℕ))
    (now : Watched)
    (refused : Bool)
    : Type 0 where
  pub held : List (List ℕ)
  pub loads : CameTo files (files_of line) held None before after
  pub all_held : length held ≡ length (files_of line)
  pub replied : Replied k (told_of k line held) old new now refused

-- A line ended the session, with its files or without one of them.
pub data EndedBy
    (files : ToldFiles)
    (k : Watched)
    (line : Command)
    (before after : Counts)
    (old new : Option (List ℕ))
    (now : Watched)
    (end : SessionEnd)
    : Type 0 where
  AtLine : (held : List (List ℕ)) →
      CameTo files (files_of line) held None before after →
      length held ≡ length (files_of line) →
      CutAt k (told_of k line held) old new now end →
      EndedBy files k line before after old new now end
  AtFile : (held : List (List ℕ)) (lost : Option FileFault) (file : Needed) →
      CameTo files (files_of line) held lost before after →
      first_lacking (files_of line) held ≡ Some file →
      LostAt file lost old new end →
      now ≡ k →
      EndedBy files k line before after old new now end

abbrev pub LineEnds : ToldFiles → Watched → Command → Counts → Counts → Option (List ℕ) → Option (List ℕ) →
    Watched → Result Bool SessionEnd → Type 0
LineEnds files k line before after old new now (Ok refused) = WasRun files k line before after old new now refused
LineEnds files k line before after old new now (Err end) = EndedBy files k line before after old new now end

-- how a line ends whose reply was written, or not
abbrev pub written_end : Result (Unit {0}) SinkFault → Bool → Result Bool SessionEnd
written_end (Ok u) refused = Ok refused
written_end (Err SinkFailed) refused = Err SinkEnd
written_end (Err Memory) refused = Err MemoryEnd

-- what comes of a line that has its files
abbrev pub ToldEnds : Watched → Told → Option (List ℕ) → Option (List ℕ) → Watched → Result Bool SessionEnd → Type 0
ToldEnds k told old new now (Ok refused) = Replied k told old new now refused
ToldEnds k told old new now (Err end) = CutAt k told old new now end

-- how the session ends at a file, when its line was written, or not
abbrev pub file_end : Result (Unit {0}) SinkFault → SessionEnd
file_end (Ok u) = FileEnd
file_end (Err SinkFailed) = SinkEnd
file_end (Err Memory) = MemoryEnd

abbrev pub FileEnds : Wanted → FileFault → Option (List ℕ) → Option (List ℕ) → SessionEnd → Type 0
FileEnds file fault old new end = LostAt (needed_by file) (outside_fault fault) old new end
