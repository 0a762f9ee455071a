-- How what the loads of a call came to, and what comes after them, make its answer.
use Rattle.std.specs.Prelude.{zero, suc}
use Rattle.std.proofs.Common.{◌≡◌, ◌∙◌, ℕ, ◌+◌, ◌<◌, List, [], ◌∷◌, ◌++◌, length, map}
use Rattle.std.proofs.Common.{get_or, Option, Some, None, refl, sym, ap, subst, arith}
use Rattle.std.proofs.lemmas.List.{append-nil, get_or_default, length_push, length-map}
use Rattle.std.specs.Global.{Vec}
use Rattle.ks_io.specs.Outside.{Counts}
use Rattle.ks_io.specs.Loads.{Needed, Told, CameTo, IsLostAfter, first_lacking, needed_by, outside_fault, bytes_of}
use Rattle.ks_io.specs.laws.LoadLaws.{CameTo-then, CameTo-within, CameTo-nothing, first_lacking-none}
use Rattle.ks_io.specs.declared.types.Lost.{Lost}
use Rattle.ks_io.specs.declared.types.Wanted.{Wanted}
use Rattle.ksplice_calls.specs.Answer.{Answer, ComesOut, OneComesOut, Answered, NoMemory, lost_answer, usage_answer}
use Rattle.ksplice_calls.specs.Calls.{needed_object, named_files, line_files, IsAnswerBy, Answers, RunAnswers}
use Rattle.ksplice_calls.specs.Reply.{IsReply, code_answer, match_answer, session_of, session_files}
use Rattle.ksplice_calls.specs.Linking.{link_answer}
use Rattle.ksplice_calls.specs.Works.{gen_answer}
use Rattle.call_words.specs.Words.{Asked, Diff, Code, Match, Run, Gen, Link}

-- what comes out is one of these answers, so it is one of those
pub carried_over : {P Q : Answer → Type 0} {old new : Option (List ℕ)} {status : ℕ}
    → ((answer : Answer) → P answer → Q answer) → OneComesOut P old new status → OneComesOut Q old new status
carried_over f (Answered answer one out) = Answered answer (f answer one) out
carried_over f (NoMemory s n) = NoMemory s n

-- the words have no reading, and the usage line comes out
pub usage_answers : (asked : Option Asked) (told : Told) (before : Counts) (old new : Option (List ℕ)) (status : ℕ)
    → asked ≡ None
    → ComesOut usage_answer old new status → Answers asked told before before old new status
usage_answers asked told before old new status none out =
    record {
      held = [];
      lost = None;
      loads = CameTo-nothing told _ before;
      answer = Answered usage_answer (rw none refl) out;
    }

-- the first file that is lacking, by its index
lacking_at : (wanted : List Wanted) (held : List (List ℕ)) (index : ℕ) (d : Wanted)
    → length held ≡ index → index < length (map needed_by wanted)
    → first_lacking (map needed_by wanted) held ≡ Some (needed_by (get_or wanted index d))
lacking_at [] held index d count within = absurd (omega arith)
lacking_at (file ∷ wanted) [] index d count within = rw (sym count) refl
lacking_at (file ∷ wanted) (bytes ∷ held) zero d count within = absurd (omega (arith, count))
lacking_at (file ∷ wanted) (bytes ∷ held) (suc index) d count within =
    lacking_at wanted held index d (omega (arith, count)) (omega (arith, within))

-- A file that the words name was lost, and its line came out.
pub lost_answers : (asked : Asked)
    (wanted : List Wanted) (lost : Lost) {told : Told} {before now : Counts} {old new : Option (List ℕ)} {status : ℕ}
    → map needed_by wanted ≡ named_files (Some asked) → IsLostAfter told (map needed_by wanted) before now lost
    → ComesOut (lost_answer
    (needed_by (get_or wanted lost.index (record { name = record { ref_ptr = (0, 0); now = [] }; limit = 0 })))
    (outside_fault lost.fault)) old new status
    → Answers (Some asked) told before now old new status
lost_answers asked wanted lost {told} {before} {now} named after out =
    let file : Needed =
    needed_by (get_or wanted lost.index (record { name = record { ref_ptr = (0, 0); now = [] }; limit = 0 })) in
    let first : first_lacking (named_files (Some asked)) after.held ≡ Some file =
    subst (λ (files : List Needed). first_lacking files after.held ≡ Some file) named
    (lacking_at wanted after.held lost.index _ after.count after.within) in
    let within : length after.held < length (named_files (Some asked)) =
    subst
    (λ (files : List Needed). length after.held < length files) named (omega (arith, after.count, after.within)) in
    let loads : CameTo told (named_files (Some asked)) after.held (outside_fault lost.fault) before now =
    subst (λ (files : List Needed). CameTo told files after.held (outside_fault lost.fault) before now)
    named after.loads in
    record {
      held = after.held;
      lost = outside_fault lost.fault;
      loads = CameTo-within told (named_files (Some asked))
          (line_files (Some asked) after.held) after.held (outside_fault lost.fault) before now within loads;
      answer = Answered (lost_answer file (outside_fault lost.fault)) (rw first refl) out;
    }

-- the same, where the file is the one at its place
pub lost_one_answers : (asked : Asked)
    (wanted : List Wanted) (lost : Lost) (file : Wanted) {told : Told} {before now : Counts}
    {old new : Option (List ℕ)} {status : ℕ}
    → map needed_by wanted ≡ named_files (Some asked) → IsLostAfter told (map needed_by wanted) before now lost
    → file ≡ get_or wanted lost.index file
    → ComesOut (lost_answer (needed_by file) (outside_fault lost.fault)) old new status
    → Answers (Some asked) told before now old new status
lost_one_answers asked wanted lost file {told} {before} {now} {old} {new} {status} named after is out =
    let within : lost.index < length wanted = omega (arith, after.within, length-map wanted needed_by) in
    lost_answers asked wanted lost named after
    (subst (λ (one : Wanted). ComesOut (lost_answer (needed_by one) (outside_fault lost.fault)) old new status)
    (is ∙ get_or_default wanted lost.index file _ within) out)

-- the bytes of one file, and of two
pub one_held : (files : List (Vec ℕ)) (file : Vec ℕ) (bytes : List ℕ)
    → length files ≡ 1 → file ≡ get_or files 0 file → bytes ≡ file.items → bytes_of files ≡ bytes ∷ []
one_held [] file bytes one is same = absurd (omega (arith, one))
one_held (x ∷ []) file bytes one is same = cc
one_held (x ∷ y ∷ files) file bytes one is same = absurd (omega (arith, one))

pub two_held : (files : List (Vec ℕ)) (file other : Vec ℕ) (bytes others : List ℕ)
    → length files ≡ 2 → file ≡ get_or files 0 file → bytes ≡ file.items
    → other ≡ get_or files 1 other → others ≡ other.items → bytes_of files ≡ bytes ∷ others ∷ []
two_held [] file other bytes others two is same is' same' = absurd (omega (arith, two))
two_held (x ∷ []) file other bytes others two is same is' same' = absurd (omega (arith, two))
two_held (x ∷ y ∷ []) file other bytes others two is same is' same' = cc
two_held (x ∷ y ∷ z ∷ files) file other bytes others two is same is' same' = absurd (omega (arith, two))

-- the same of two files that are taken from the end of those that were held
pub two_taken : (files rest none : List (Vec ℕ)) (one other : Vec ℕ) → length files ≡ 2
    → files ≡ rest ++ other ∷ [] → rest ≡ none ++ one ∷ [] → bytes_of files ≡ one.items ∷ other.items ∷ []
two_taken files rest [] one other two last first = ap bytes_of (last ∙ ap (λ l. l ++ other ∷ []) first)
two_taken files rest (x ∷ none) one other two last first =
    let all : length files ≡ length rest + 1 = ap length last ∙ length_push rest other in
    let most : length rest ≡ length (x ∷ none) + 1 = ap length first ∙ length_push (x ∷ none) one in
    absurd (omega (arith, two, all, most))

-- Both objects were held, and their reply came out.
pub diff_answers : (pre post bytes others : List ℕ)
    (held : List (List ℕ)) {told : Told} {before now : Counts} {old new : Option (List ℕ)} {status : ℕ}
    → held ≡ bytes ∷ others ∷ [] → CameTo told (named_files (Some (Diff pre post))) held None before now
    → OneComesOut (IsReply bytes others) old new status → Answers (Some (Diff pre post)) told before now old new status
diff_answers pre post bytes others held two loads out =
    record { held = bytes ∷ others ∷ []; lost = None; loads = rw two at loads; answer = out }

-- The image was held, and the listing's reply came out.
pub code_answers : (image name bytes : List ℕ)
    (held : List (List ℕ)) {told : Told} {before now : Counts} {old new : Option (List ℕ)} {status : ℕ}
    → held ≡ bytes ∷ [] → CameTo told (named_files (Some (Code image name))) held None before now
    → OneComesOut (λ answer. answer ≡ code_answer bytes name) old new status
    → Answers (Some (Code image name)) told before now old new status
code_answers image name bytes held one loads out =
    record { held = bytes ∷ []; lost = None; loads = rw one at loads; answer = out }

-- Image and object were held, and the reply for the two came out.
pub match_answers : (image pre bytes object : List ℕ)
    (held : List (List ℕ)) {told : Told} {before now : Counts} {old new : Option (List ℕ)} {status : ℕ}
    → held ≡ bytes ∷ object ∷ [] → CameTo told (named_files (Some (Match image pre))) held None before now
    → OneComesOut (λ answer. answer ≡ match_answer bytes object) old new status
    → Answers (Some (Match image pre)) told before now old new status
match_answers image pre bytes object held two loads out =
    record { held = bytes ∷ object ∷ []; lost = None; loads = rw two at loads; answer = out }

-- Image and script were held, and what came out of the session.
pub run_answers : (image script bytes lines : List ℕ)
    (held : List (List ℕ)) {told told' : Told} {before between now : Counts} {old new : Option (List ℕ)} {status : ℕ}
    → held ≡ bytes ∷ lines ∷ []
    → CameTo told (named_files (Some (Run image script))) held None before between → told' ≡ told
    → RunAnswers bytes lines told' between now old new status
    → Answers (Some (Run image script)) told before now old new status
run_answers image script bytes lines held {told} {told'} {before} {between} {now} two loads kept ran = record {
  held = bytes ∷ lines ∷ ran.held;
  lost = ran.lost;
  loads = CameTo-then told (named_files (Some (Run image script)))
      (session_files (session_of bytes lines)) (bytes ∷ lines ∷ []) ran.held ran.lost before between now refl
      (rw two at loads) (rw kept at ran.loads);
  answer = ran.answer;
}

-- No file was needed, and the summary of a work's session came out.
pub gen_answers : (number : ℕ) {told : Told} {before : Counts} {old new : Option (List ℕ)} {status : ℕ}
    → OneComesOut (λ answer. answer ≡ gen_answer number) old new status
    → Answers (Some (Gen number)) told before before old new status
gen_answers number {told} {before} out =
    record { held = []; lost = None; loads = CameTo-nothing told _ before; answer = out }

-- All objects were held, and the reply for them came out.
pub link_answers : (objects : List (List ℕ)) (needed : List Needed) (held : List (List ℕ))
    {told : Told} {before now : Counts} {old new : Option (List ℕ)} {status : ℕ}
    → needed ≡ map needed_object objects → length held ≡ length needed → CameTo told needed held None before now
    → OneComesOut (λ answer. answer ≡ link_answer held) old new status
    → Answers (Some (Link objects)) told before now old new status
link_answers objects needed held {told} {before} {now} named all loads out =
    let none : first_lacking (map needed_object objects) held ≡ None =
    first_lacking-none (map needed_object objects) held (all ∙ ap length named) in
    record {
      held = held;
      lost = None;
      loads = subst (λ (files : List Needed). CameTo told files held None before now)
          (named ∙ sym (append-nil (map needed_object objects))) loads;
      answer = carried_over (λ answer one. subst
          (λ (first : Option Needed). IsAnswerBy first (Link objects) held None answer) (sym none)
          (all ∙ ap length named ∙ length-map objects needed_object, one)) out;
    }

-- Memory ran out before anything was loaded, and nothing came out.
pub memory_answers : (asked : Option Asked) {told : Told} {before : Counts} {old : Option (List ℕ)}
    → Answers asked told before before old old 6
memory_answers asked {told} {before} =
    record { held = []; lost = None; loads = CameTo-nothing told _ before; answer = NoMemory refl refl }
