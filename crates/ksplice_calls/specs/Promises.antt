-- What the status of a call tells, whatever the files are.
use Rattle.std.specs.Prelude.{◌≡◌, ◌⊎◌, ℕ, ◌<◌, List, [], ◌∷◌, ◌++◌, Option, Some, None, Result, Ok, Err}
use Rattle.ks_base.specs.declared.refusals.Refusal.{Refusal}
use Rattle.ks_io.specs.Loads.{Needed, Told, AreHeld, IsLost, first_lacking}
use Rattle.ks_io.specs.Outside.{Counts, IsLonger, grown}
use Rattle.ks_io.specs.declared.types.FileFault.{FileFault}
use Rattle.script_lines.specs.declared.types.Command.{Command}
use Rattle.ksplice_session.specs.Session.{file_line, session_played}
use Rattle.ksplice_session.specs.Watching.{Watched}
use Rattle.ksplice_calls.specs.Answer.{Answer, ComesOut}
use Rattle.ksplice_calls.specs.Calls.{IsReplyTo, needed}
use Rattle.ksplice_calls.specs.Reply.{session_of}
use Rattle.call_words.specs.Words.{Asked, Run}

-- The reply to what the words ask for came out, for some files within their limits; where the files are given, these
-- are they.
pub record RepliesSome (asked : Option Asked) (told : Told) (old new : Option (List ℕ)) (status : ℕ) : Type 0 where
  pub command : Asked
  pub asked_for : asked ≡ Some command
  pub held : List (List ℕ)
  pub lost : Option FileFault
  pub are_held : AreHeld told (needed asked held) held
  pub answer : Answer
  pub reply : IsReplyTo command held lost answer
  pub comes_out : ComesOut answer old new status

-- Each file that a call needs is given, and is no longer than its limit: these are the bytes of all of them, in order.
pub record AllAreGiven (asked : Option Asked) (files : List ℕ → Option (List ℕ)) (all : List (List ℕ)) : Type 0 where
  pub are_given : AreHeld (Some files) (needed asked all) all
  pub none_lacks : first_lacking (needed asked all) all ≡ None

-- The whole reply came out that these files have, with its status.
pub record RepliesWhole
    (command : Asked) (all : List (List ℕ)) (old new : Option (List ℕ)) (status : ℕ) : Type 0 where
  pub answer : Answer
  pub reply : IsReplyTo command all None answer
  pub whole : new ≡ grown old answer.output
  pub ends : status ≡ answer.status
  pub replied : (status ≡ 0) ⊎ (status ≡ 3) ⊎ (status ≡ 7)

-- the replies to the lines of a session before the first that lacks a file, by the bytes of the files that were held
abbrev pub session_replies : Result (Watched × List Command) Refusal → List (List ℕ) → List ℕ
session_replies (Err refusal) held = []
session_replies (Ok session) held = (session_played session.0 session.1 held).output

-- what a call has written when it comes to the first file that it lacks: nothing, but for a session that has begun
abbrev pub replies_before : Option Asked → List (List ℕ) → List ℕ
replies_before (Some (Run image script)) (bytes ∷ lines ∷ held) = session_replies (session_of bytes lines) held
replies_before asked held = []

-- The line of the first file that the call needs and lacks came out, after the replies to the lines before it, and what
-- was wrong with the file shows in its count.
pub record EndsWithFile
    (asked : Option Asked) (told : Told) (before now : Counts) (old new : Option (List ℕ)) : Type 0 where
  pub held : List (List ℕ)
  pub are_held : AreHeld told (needed asked held) held
  pub file : Needed
  pub is_needed : first_lacking (needed asked held) held ≡ Some file
  pub fault : FileFault
  pub lost : IsLost told fault before now file
  pub line : new ≡ grown old (replies_before asked held ++ file_line file.name fault)

-- Of the given files that the call needs, those before one are held, and that one is so.
pub record OneIs (asked : Option Asked) (files : List ℕ → Option (List ℕ)) (IsSo : Needed → Type 0) : Type 0 where
  pub held : List (List ℕ)
  pub are_held : AreHeld (Some files) (needed asked held) held
  pub file : Needed
  pub is_needed : first_lacking (needed asked held) held ≡ Some file
  pub is_so : IsSo file

-- The counts rose only for a file that the call needs: absences for one that isn't there, excesses for one that is
-- longer than its limit.
abbrev pub CountsTellOf : Option Asked → (List ℕ → Option (List ℕ)) → Counts → Counts → Type 0
CountsTellOf asked files before now =
    (before.absences < now.absences → OneIs asked files (λ file. files file.name ≡ None))
    × (before.excesses < now.excesses → OneIs asked files (λ file. IsLonger file.limit (files file.name)))
