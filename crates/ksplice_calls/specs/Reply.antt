-- The replies to all commands but `gen` and `link`: to `diff` the difference of two object files, to `code` the
-- instructions of one function of an image, to `match` which functions of an image an object's code is, to `run` those
-- of a session; or why there are none.
use Rattle.std.specs.Prelude.{◌≡◌, ℕ, Bool, if◌then◌else◌, List, [], Option, Some, None, Result, Ok, Err}
use Rattle.ks_base.specs.declared.refusals.Refusal.{Refusal}
use Rattle.i386_reloc.specs.declared.types.NormalSection.{NormalSection}
use Rattle.i386_reloc.specs.Sections.{sections_of}
use Rattle.extract_post.specs.declared.types.Extract.{Extract}
use Rattle.extract_post.specs.Extract.{Extracts}
use Rattle.image_file.specs.Reading.{Contents, image_of}
use Rattle.code_listing.specs.Listing.{code_of, memory_of}
use Rattle.symbol_solve.specs.Solve.{Value, solved}
use Rattle.script_lines.specs.declared.types.Command.{Command}
use Rattle.script_lines.specs.Script.{script_of}
use Rattle.ksplice_session.specs.Watching.{Watched, first_watched}
use Rattle.ks_io.specs.Loads.{Needed}
use Rattle.ks_io.specs.declared.types.FileFault.{FileFault}
use Rattle.ksplice_session.specs.Session.{whole_output, lacking, files_along, session_played}
use Rattle.ksplice_calls.specs.Answer.{Answer, refused_answer, answer_of, lost_status}
use Rattle.ksplice_calls.specs.Difference.{listing}
use Rattle.ksplice_calls.specs.Solution.{value_lines}

-- the sections of a second object beside those of the first
abbrev pub beside : List NormalSection
    → Result (List NormalSection) Refusal → Result (List NormalSection × List NormalSection) Refusal
beside old (Err refusal) = Err refusal
beside old (Ok new) = Ok (old, new)

abbrev pub both : Result (List NormalSection) Refusal
    → Result (List NormalSection) Refusal → Result (List NormalSection × List NormalSection) Refusal
both (Err refusal) second = Err refusal
both (Ok old) second = beside old second

-- the sections of two object files; what is wrong with the first comes before what is wrong with the second
unfoldable pub both_sections : List ℕ → List ℕ → Result (List NormalSection × List NormalSection) Refusal
both_sections pre post = both (sections_of pre) (sections_of post)

-- The difference of two object files: the lines of what an update from one to the other is made of. What is wrong with
-- one of them comes before what is wrong with the two together.
pub data IsDifference (pre post : List ℕ) : Result (List ℕ) Refusal → Type 0 where
  Unread : (refusal : Refusal) → both_sections pre post ≡ Err refusal → IsDifference pre post (Err refusal)
  NoneExtracted : (old new : List NormalSection) (refusal : Refusal)
      → both_sections pre post ≡ Ok (old, new) → Extracts old new (Err refusal) → IsDifference pre post (Err refusal)
  Lists : (old new : List NormalSection) (extract : Extract) → both_sections pre post ≡ Ok (old, new)
      → Extracts old new (Ok extract) → IsDifference pre post (Ok (listing old new extract))

-- lines that list an extract of the sections of two objects
pub record Listed (old new : List NormalSection) (lines : List ℕ) : Type 0 where
  pub extract : Extract
  pub extracts : Extracts old new (Ok extract)
  pub lists : lines ≡ listing old new extract

-- a reply as an answer
abbrev pub reply_answer : Result (List ℕ) Refusal → Answer
reply_answer (Ok lines) = answer_of lines 0
reply_answer (Err refusal) = refused_answer refusal

-- the answer to `diff` where both files are loaded
pub record IsReply (pre post : List ℕ) (answer : Answer) : Type 0 where
  pub reply : Result (List ℕ) Refusal
  pub difference : IsDifference pre post reply
  pub told : answer ≡ reply_answer reply

-- the lines of the instructions of a function of an image that was read, or why there are none
abbrev pub code_of_read : Result Contents Refusal → List ℕ → Result (List ℕ) Refusal
code_of_read (Err refusal) name = Err refusal
code_of_read (Ok image) name = code_of image name

-- the reply to `code` where the image file is loaded: what is wrong with the file comes before what is wrong with the
-- name
unfoldable pub code_reply : List ℕ → List ℕ → Result (List ℕ) Refusal
code_reply bytes name = code_of_read (image_of bytes) name

abbrev pub code_answer : List ℕ → List ℕ → Answer
code_answer bytes name = reply_answer (code_reply bytes name)

-- the lines of an object's values, or why there are none
abbrev pub lines_of_values : List NormalSection → Result (List Value) Refusal → Result (List ℕ) Refusal
lines_of_values object (Err refusal) = Err refusal
lines_of_values object (Ok values) = Ok (value_lines object values)

-- the lines of an object that was read, in an image in which nothing was replaced
abbrev pub matched_in : Contents → Result (List NormalSection) Refusal → Result (List ℕ) Refusal
matched_in image (Err refusal) = Err refusal
matched_in image (Ok object) = lines_of_values object (solved object [] (memory_of image) image.symbols)

abbrev pub matched_of_read : Result Contents Refusal → Result (List NormalSection) Refusal → Result (List ℕ) Refusal
matched_of_read (Err refusal) object = Err refusal
matched_of_read (Ok image) object = matched_in image object

-- The reply to `match` where both files are loaded. What is wrong with the image comes before what is wrong with the
-- object, and that before why the object has no values in the image.
unfoldable pub match_reply : List ℕ → List ℕ → Result (List ℕ) Refusal
match_reply image pre = matched_of_read (image_of image) (sections_of pre)

abbrev pub match_answer : List ℕ → List ℕ → Answer
match_answer image pre = reply_answer (match_reply image pre)

-- the machine of an image at its start, and the lines of a script
abbrev pub with_lines : Watched → Result (List Command) Refusal → Result (Watched × List Command) Refusal
with_lines machine (Err refusal) = Err refusal
with_lines machine (Ok lines) = Ok (machine, lines)

abbrev pub session_of_read : Result Contents Refusal
    → Result (List Command) Refusal → Result (Watched × List Command) Refusal
session_of_read (Err refusal) script = Err refusal
session_of_read (Ok image) script = with_lines (first_watched image) script

-- the session of an image file and a script file; what is wrong with the image comes before what is wrong with the
-- script
unfoldable pub session_of : List ℕ → List ℕ → Result (Watched × List Command) Refusal
session_of image script = session_of_read (image_of image) (script_of script)

-- the files that the lines of a session name
abbrev pub session_files : Result (Watched × List Command) Refusal → List Needed
session_files (Err refusal) = []
session_files (Ok session) = files_along session.1

-- the status of a session: whether a file is lacking, else whether a reply is a refusal
abbrev pub session_status : Option Needed → Option FileFault → Bool → ℕ
session_status None lost refused = if refused then 3 else 0
session_status (Some file) lost refused = lost_status lost

-- the replies to the lines, up to the line of a file where one is lacking
abbrev pub lines_answer : Watched → List Command → List (List ℕ) → Option FileFault → Answer
lines_answer k script held lost =
    answer_of (whole_output k script held lost)
    (session_status (lacking script held) lost (session_played k script held).refused)

abbrev pub session_answer : Result (Watched × List Command) Refusal → List (List ℕ) → Option FileFault → Answer
session_answer (Err refusal) held lost = refused_answer refusal
session_answer (Ok session) held lost = lines_answer session.0 session.1 held lost

-- The answer to `run` where both files are held, by the bytes of the files of lines that were held, and the fault for
-- which the next was not.
abbrev pub run_answer : List ℕ → List ℕ → List (List ℕ) → Option FileFault → Answer
run_answer image script held lost = session_answer (session_of image script) held lost
