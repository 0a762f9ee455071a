-- The reply to `gen`: a work is made from its number and run over its files, and what its session replies is summed up.
use Rattle.std.specs.Prelude.{ℕ, ◌-◌, Bool, ◌==◌, nat_eq, if◌then◌else◌, List, [], ◌∷◌, ◌++◌, codes, map, length, drop}
use Rattle.std.specs.Prelude.{Option, None, unwrap_or}
use Rattle.std.specs.List.{filter, flat_map, starts_with}
use Rattle.ks_base.specs.Text.{number_text}
use Rattle.ks_io.specs.InMemory.{with_file}
use Rattle.ks_io.specs.Loads.{Needed}
use Rattle.script_lines.specs.Lines.{lines_of}
use Rattle.work_gen.specs.declared.types.Work.{Work}
use Rattle.work_gen.specs.Functions.{function_count}
use Rattle.work_gen.specs.Work.{work_of}
use Rattle.ksplice_calls.specs.Answer.{Answer, answer_of}
use Rattle.ksplice_calls.specs.Reply.{run_answer, session_of, session_files}

-- the two objects of a work, by the names that they have in its script
abbrev pub work_files : Work → List ℕ → Option (List ℕ)
work_files work = with_file (with_file (λ name. None) (codes "pre.o") work.pre) (codes "post.o") work.post

-- the bytes of a file, none where it isn't given
abbrev pub bytes_in : (List ℕ → Option (List ℕ)) → Needed → List ℕ
bytes_in files file = unwrap_or (files file.name) []

-- What `run` prints of a work's image and script, where each file that its lines name is held. (That image and script
-- are in their forms, and that each of these files is one of the work's objects and within its limit, are laws.)
unfoldable pub work_replies : Work → List ℕ
work_replies work =
    let needed = session_files (session_of work.image work.script) in
    (run_answer work.image work.script (map (bytes_in (work_files work)) needed) None).output

-- how many lines begin with a text
abbrev pub begins_with : List ℕ → List ℕ → Bool
begins_with text line = starts_with nat_eq line text

abbrev pub count_with : List ℕ → List (List ℕ) → ℕ
count_with text lines = length (filter (begins_with text) lines)

abbrev pub ended_line : List ℕ → List ℕ
ended_line line = line ++ 10 ∷ []

-- the last three lines, or all where they are fewer
abbrev pub last_three : List (List ℕ) → List (List ℕ)
last_three lines = drop (length lines - 3) lines

-- the number of the work, and how many functions it has
unfoldable pub work_line : ℕ → List ℕ
work_line number =
    codes "gen " ++ number_text number ++ codes " functions " ++ number_text (function_count number) ++ 10 ∷ []

-- how many lines the session replied, and how many of these say that an update was made or taken back, or that a line
-- of the script was refused
unfoldable pub counts_line : List (List ℕ) → List ℕ
counts_line lines =
    codes "lines " ++ number_text (length lines)
    ++ codes " applied " ++ number_text (count_with (codes "applied ") lines)
    ++ codes " undone " ++ number_text (count_with (codes "undone ") lines)
    ++ codes " refused " ++ number_text (count_with (codes "refused ") lines)
    ++ 10 ∷ []

-- the summary of the lines that a work's session replied, and its status
unfoldable pub summary : ℕ → List (List ℕ) → List ℕ
summary number lines = work_line number ++ counts_line lines ++ flat_map ended_line (last_three lines)

abbrev pub summary_status : List (List ℕ) → ℕ
summary_status lines = if count_with (codes "refused ") lines == 0 then 0 else 3

-- the answer to `gen`, by the lines that the session replied
abbrev pub summary_answer : ℕ → List (List ℕ) → Answer
summary_answer number lines = answer_of (summary number lines) (summary_status lines)

unfoldable pub gen_answer : ℕ → Answer
gen_answer number = summary_answer number (lines_of (work_replies (work_of number)))
