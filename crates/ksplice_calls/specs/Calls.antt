-- What a call of the program does: which files it loads, and which answers are those to its words and its files.
use Rattle.std.specs.Prelude.{◌≡◌, ℕ, Bool, nat_eq, List, [], ◌∷◌, ◌++◌, map, length, Option, Some, None}
use Rattle.std.specs.List.{list_any}
use Rattle.ks_io.specs.Loads.{Needed, Told, CameTo, first_lacking}
use Rattle.ks_io.specs.Outside.{Counts}
use Rattle.ks_io.specs.declared.types.FileFault.{FileFault}
use Rattle.ks_io.specs.declared.types.FileFault.TheVariants.{Missing, TooLong, Failed, Memory}
use Rattle.ksplice_session.specs.Replies.{object_limit}
use Rattle.ksplice_session.specs.declared.types.SessionEnd.{SessionEnd}
use Rattle.ksplice_session.specs.declared.types.SessionEnd.TheVariants.{Done, SomeRefused, FileEnd, SinkEnd, MemoryEnd}
use Rattle.ksplice_calls.specs.Answer.{Answer, OneComesOut, usage_answer, lost_answer}
use Rattle.ksplice_calls.specs.Reply.{IsReply, code_answer, match_answer, run_answer, session_of, session_files}
use Rattle.call_words.specs.Words.{Asked, Diff, Code, Match, Run, Gen, Link}
use Rattle.ksplice_calls.specs.Works.{gen_answer}
use Rattle.ksplice_calls.specs.Linking.{link_answer}

-- the most bytes that an image file may have, and a script
abbrev pub image_limit : ℕ
image_limit = 33554432

abbrev pub script_limit : ℕ
script_limit = 1048576

abbrev pub needed_file : List ℕ → ℕ → Needed
needed_file name limit = record { name = name; limit = limit }

abbrev pub needed_object : List ℕ → Needed
needed_object name = needed_file name object_limit

-- the files that the words name, in order
abbrev pub named_files : Option Asked → List Needed
named_files None = []
named_files (Some (Diff pre post)) = needed_file pre object_limit ∷ needed_file post object_limit ∷ []
named_files (Some (Code image name)) = needed_file image image_limit ∷ []
named_files (Some (Match image pre)) = needed_file image image_limit ∷ needed_file pre object_limit ∷ []
named_files (Some (Run image script)) = needed_file image image_limit ∷ needed_file script script_limit ∷ []
named_files (Some (Gen number)) = []
named_files (Some (Link objects)) = map needed_object objects

-- The files that lines name, once the files that the words name are held with these bytes: those of the script, where
-- image and script are in their forms. (The lines of a work's script have their files in memory.)
abbrev pub line_files : Option Asked → List (List ℕ) → List Needed
line_files (Some (Run image script)) (bytes ∷ lines ∷ held) = session_files (session_of bytes lines)
line_files asked held = []

-- All files that a call loads, in order. None is read before all that the words name are held.
abbrev pub needed : Option Asked → List (List ℕ) → List Needed
needed asked held = named_files asked ++ line_files asked held

-- the reply to a command, once the files that its words name are held
abbrev pub IsReplyTo : Asked → List (List ℕ) → Option FileFault → Answer → Type 0
IsReplyTo (Diff pre post) (old ∷ new ∷ held) lost answer = IsReply old new answer
IsReplyTo (Code image name) (bytes ∷ held) lost answer = answer ≡ code_answer bytes name
IsReplyTo (Match image pre) (bytes ∷ object ∷ held) lost answer = answer ≡ match_answer bytes object
IsReplyTo (Run image script) (bytes ∷ lines ∷ held) lost answer = answer ≡ run_answer bytes lines held lost
IsReplyTo (Gen number) held lost answer = answer ≡ gen_answer number
IsReplyTo (Link objects) held lost answer = (length held ≡ length objects) × (answer ≡ link_answer held)
IsReplyTo asked held lost answer = ⊥

-- the answers to a command: the line of the first file that the words name and that is lacking, or the reply
abbrev pub IsAnswerBy : Option Needed → Asked → List (List ℕ) → Option FileFault → Answer → Type 0
IsAnswerBy (Some file) asked held lost answer = answer ≡ lost_answer file lost
IsAnswerBy None asked held lost answer = IsReplyTo asked held lost answer

-- The answers to what the words ask for, by the bytes of the files that were held, in order, and the fault of the
-- outside for which the next was not, if there was one.
abbrev pub IsAnswer : Option Asked → List (List ℕ) → Option FileFault → Answer → Type 0
IsAnswer None held lost answer = answer ≡ usage_answer
IsAnswer (Some asked) held lost answer =
    IsAnswerBy (first_lacking (named_files (Some asked)) held) asked held lost answer

-- What the loads of a call came to, and what came out: an answer by these loads.
pub record Answers
    (asked : Option Asked) (told : Told) (before now : Counts) (old new : Option (List ℕ)) (status : ℕ) : Type 0 where
  pub held : List (List ℕ)
  pub lost : Option FileFault
  pub loads : CameTo told (needed asked held) held lost before now
  pub answer : OneComesOut (IsAnswer asked held lost) old new status

-- the number of the load that the outside failed, counted from 0, if one did
abbrev pub failed_load : List (List ℕ) → Option FileFault → Option ℕ
failed_load held None = None
failed_load held (Some Missing) = None
failed_load held (Some TooLong) = None
failed_load held (Some Failed) = Some (length held)
failed_load held (Some Memory) = None

-- What the loads of lines came to, and what came out, once image and script are held.
pub record RunAnswers
    (image script : List ℕ) (told : Told) (before now : Counts) (old new : Option (List ℕ)) (status : ℕ) : Type 0 where
  pub held : List (List ℕ)
  pub lost : Option FileFault
  pub loads : CameTo told (session_files (session_of image script)) held lost before now
  pub answer : OneComesOut (λ answer. answer ≡ run_answer image script held lost) old new status

-- the status of a session's end
abbrev pub end_status : SessionEnd → ℕ
end_status Done = 0
end_status SomeRefused = 3
end_status FileEnd = 4
end_status SinkEnd = 5
end_status MemoryEnd = 6

-- the statuses with which a call ends whose words have a reading; and all
abbrev pub is_carried_out : ℕ → Bool
is_carried_out status = list_any (nat_eq status) (0 ∷ 3 ∷ 4 ∷ 5 ∷ 6 ∷ 7 ∷ [])

abbrev pub is_status : ℕ → Bool
is_status status = list_any (nat_eq status) (0 ∷ 2 ∷ 3 ∷ 4 ∷ 5 ∷ 6 ∷ 7 ∷ [])
