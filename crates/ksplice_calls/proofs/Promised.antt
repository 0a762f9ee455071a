-- What the status of a call tells follows from its answer.
use Rattle.std.proofs.Common.{◌≡◌, ◌⊎◌, inl, inr, ℕ, ◌<◌, Bool, true, false, List, [], ◌∷◌, ◌++◌, length}
use Rattle.std.proofs.Common.{nat_eq, Option, Some, None, Result, Ok, Err, refl, sym, ◌∙◌, ap, subst, arith}
use Rattle.std.proofs.Common.{le_of_suc-le-suc, not-suc-le-zero}
use Rattle.std.specs.List.{list_any}
use Rattle.std.proofs.lemmas.Option.{slice_get_within}
use Rattle.ks_base.specs.declared.refusals.Refusal.{Refusal}
use Rattle.ks_base.specs.declared.refusals.Refusal.TheVariants.{BadImage, BadLine}
use Rattle.ks_io.specs.laws.Fronts.{nothing_taken}
use Rattle.ks_io.specs.Outside.{Counts, TookFront, grown}
use Rattle.ks_io.specs.Loads.{Needed, Told, AreHeld, EndsLoads, RoseFor, LosesOne, first_lacking}
use Rattle.ks_io.specs.laws.LoadLaws.{first_lacking-within, stays_or_loses_one}
use Rattle.ks_io.specs.declared.types.FileFault.{FileFault}
use Rattle.script_lines.specs.declared.types.Command.{Command}
use Rattle.ksplice_session.specs.Watching.{Watched}
use Rattle.ksplice_session.specs.Session.{lacking, lost_line, session_played}
use Rattle.ksplice_calls.specs.Answer.{Answer, OneComesOut, Answered, NoMemory, ComesOut, usage_answer}
use Rattle.ksplice_calls.specs.Calls.{named_files, line_files, needed, IsAnswer, IsAnswerBy, Answers}
use Rattle.ksplice_calls.specs.Promises.{RepliesSome, EndsWithFile, CountsTellOf, replies_before}
use Rattle.ksplice_calls.specs.Reply.{code_reply, match_reply, reply_answer, session_of, session_status, session_answer, session_files}
use Rattle.ksplice_calls.specs.Linking.{link_reply}
use Rattle.ksplice_calls.proofs.OneLoading.{no_object_lacks}
use Rattle.ksplice_calls.proofs.WorkAnswers.{work_ends_not_with_four}
use Rattle.call_words.specs.Words.{Asked, Diff, Code, Match, Run, Gen, Link}

-- no reading
pub usage_line : (told : Told) (before now : Counts) (old new : Option (List ℕ)) (status : ℕ)
    → Answers None told before now old new status → ComesOut usage_answer old new status
usage_line told before now old new status a = by a.answer
  where
    by : OneComesOut (λ answer. answer ≡ usage_answer) old new status → ComesOut usage_answer old new status
    by (Answered answer one out) = subst (λ (a : Answer). ComesOut a old new status) one out
    by (NoMemory s n) =
        subst (λ (x : ℕ). ComesOut usage_answer old new x) (sym s) (subst (λ (x : Option (List ℕ)).
        TookFront old usage_answer.output x) (sym n) (nothing_taken old usage_answer.output))

-- statuses 0, 3 and 7
IsReplied : ℕ → Type 0
IsReplied status = (status ≡ 0) ⊎ (status ≡ 3) ⊎ (status ≡ 7)

whole_status : (answer : Answer) (old new : Option (List ℕ)) (status : ℕ)
    → IsReplied status → ComesOut answer old new status → status ≡ answer.status
unfolding IsReplied
whole_status answer old new status (inl e) out = let o : ComesOut answer old new 0 = rw e at out in e ∙ o.0
whole_status answer old new status (inr (inl e)) out = let o : ComesOut answer old new 3 = rw e at out in e ∙ o.0
whole_status answer old new status (inr (inr e)) out = let o : ComesOut answer old new 7 = rw e at out in e ∙ o.0

not_replied : (status other : ℕ) → IsReplied status → status ≡ other → (other ≡ 2) ⊎ (other ≡ 4) ⊎ (other ≡ 6) → ⊥
unfolding IsReplied
not_replied status other replied e one = grind arith

replied_at : (first : Option Needed) (command : Asked) (told : Told)
    (held : List (List ℕ)) (lost : Option FileFault) (old new : Option (List ℕ)) (status : ℕ) → IsReplied status
    → AreHeld told (needed (Some command) held) held → OneComesOut (IsAnswerBy first command held lost) old new status
    → RepliesSome (Some command) told old new status
replied_at None command told held lost old new status replied are (Answered answer one out) =
    record {
      command = command;
      asked_for = refl;
      held = held;
      lost = lost;
      are_held = are;
      answer = answer;
      reply = one;
      comes_out = out;
    }
replied_at (Some file) command told held None old new status replied are (Answered answer one out) =
    absurd (not_replied status answer.status replied
    (whole_status answer old new status replied out) (inr (inr (ap (λ (a : Answer). a.status) one))))
replied_at (Some file) command told held (Some fault) old new status replied are (Answered answer one out) =
    absurd (not_replied status answer.status replied
    (whole_status answer old new status replied out) (inr (inl (ap (λ (a : Answer). a.status) one))))
replied_at first command told held lost old new status replied are (NoMemory s n) =
    absurd (not_replied status 6 replied s (inr (inr refl)))

not_asked : (told : Told) (old new : Option (List ℕ)) (status : ℕ)
    → IsReplied status → OneComesOut (λ answer. answer ≡ usage_answer) old new status → ⊥
not_asked told old new status replied (Answered answer one out) =
    not_replied status answer.status replied
    (whole_status answer old new status replied out) (inl (ap (λ (a : Answer). a.status) one))
not_asked told old new status replied (NoMemory s n) = not_replied status 6 replied s (inr (inr refl))

pub replies_some : (asked : Option Asked) (told : Told) (before now : Counts) (old new : Option (List ℕ)) (status : ℕ)
    → Answers asked told before now old new status
    → (status ≡ 0) ⊎ (status ≡ 3) ⊎ (status ≡ 7) → RepliesSome asked told old new status
unfolding IsReplied
replies_some None told before now old new status a replied = absurd (not_asked told old new status replied a.answer)
replies_some (Some command) told before now old new status a replied =
    replied_at (first_lacking (named_files (Some command)) a.held)
    command told a.held a.lost old new status replied a.loads.are_held a.answer

-- status 4 is that of no reply
is_replied : ℕ → Bool
is_replied status = list_any (nat_eq status) (0 ∷ 3 ∷ 7 ∷ [])

reply_status : (reply : Result (List ℕ) Refusal) → is_replied (reply_answer reply).status ≡ true
unfolding is_replied
reply_status (Ok lines) = refl
reply_status (Err (BadImage offset fault)) = refl
reply_status (Err (BadLine number)) = refl
reply_status (Err other) = refl

not_four : (reply : Result (List ℕ) Refusal) → 4 ≡ (reply_answer reply).status → ⊥
unfolding is_replied
not_four reply e =
    let wrong : is_replied 4 ≡ true =
    subst (λ (status : ℕ). is_replied status ≡ true) (sym e) (reply_status reply) in cc

-- a session that lacks a file
lines_at : (image script bytes lines : List ℕ) (k : Watched) (commands : List Command)
    (held : List (List ℕ)) (told : Told) (lost : Option FileFault) (before now : Counts) (old new : Option (List ℕ))
    → session_of bytes lines ≡ Ok (k, commands)
    → AreHeld told (needed (Some (Run image script)) (bytes ∷ lines ∷ held)) (bytes ∷ lines ∷ held)
    → EndsLoads told (lacking commands held) lost before now
    → (file : Option Needed)
    → lacking commands held ≡ file → 4 ≡ session_status file lost (session_played k commands held).refused
    → new ≡ grown old ((session_played k commands held).output ++ lost_line file lost)
    → EndsWithFile (Some (Run image script)) told before now old new
lines_at image script bytes lines k commands held told lost before now old new read are ends None lacks four taken =
    absurd (not_three (session_played k commands held).refused four)
  where
    not_three : (refused : Bool) → 4 ≡ session_status None lost refused → ⊥
    not_three true e = omega (arith, e)
    not_three false e = omega (arith, e)
lines_at image script bytes lines k commands held told
    None before now old new read are ends (Some file) lacks four taken =
    absurd (omega (arith, four))
lines_at image script bytes lines k commands held told
    (Some fault) before now old new read are ends (Some file) lacks four taken = record {
      held = bytes ∷ lines ∷ held;
      are_held = are;
      file = file;
      is_needed = rw read lacks;
      fault = fault;
      lost = rw lacks at ends;
      line = rw read taken;
    }

session_at : (image script bytes lines : List ℕ) (read : Result (Watched × List Command) Refusal)
    (held : List (List ℕ)) (told : Told) (lost : Option FileFault) (before now : Counts) (old new : Option (List ℕ))
    → session_of bytes lines ≡ read
    → AreHeld told (needed (Some (Run image script)) (bytes ∷ lines ∷ held)) (bytes ∷ lines ∷ held)
    → EndsLoads told (first_lacking (session_files read) held) lost before now
    → 4 ≡ (session_answer read held lost).status → new ≡ grown old (session_answer read held lost).output
    → EndsWithFile (Some (Run image script)) told before now old new
session_at image script bytes lines (Err refusal) held told lost before now old new is are ends four taken =
    absurd (not_four (Err refusal) four)
session_at image script bytes lines (Ok session) held told lost before now old new is are ends four taken =
    lines_at image script bytes lines session.0 session.1 held told lost before now old new is are ends
    (lacking session.1 held) refl four taken

-- before the files that the words name are held nothing is written
no_replies : (command : Asked) (held : List (List ℕ)) → length held < length (named_files (Some command))
    → replies_before (Some command) held ≡ []
no_replies (Diff pre post) held less = refl
no_replies (Code image name) held less = refl
no_replies (Match image pre) held less = refl
no_replies (Gen number) held less = refl
no_replies (Link objects) held less = refl
no_replies (Run image script) [] less = refl
no_replies (Run image script) (bytes ∷ []) less = refl
no_replies (Run image script) (bytes ∷ lines ∷ held) less =
    absurd (not-suc-le-zero (le_of_suc-le-suc (le_of_suc-le-suc less)))

file_at : (first : Option Needed) (command : Asked)
    (told : Told) (held : List (List ℕ)) (lost : Option FileFault) (before now : Counts) (old new : Option (List ℕ))
    → first_lacking (named_files (Some command)) held ≡ first → AreHeld told (needed (Some command) held) held
    → EndsLoads told (first_lacking (needed (Some command) held) held) lost before now
    → OneComesOut (IsAnswerBy first command held lost) old new 4 → EndsWithFile (Some command) told before now old new
file_at first command told held lost before now old new is are ends (NoMemory s n) = absurd (omega (arith, s))
file_at (Some file) command told held None before now old new is are ends (Answered answer one out) =
    absurd (let four : 4 ≡ answer.status = out.0 in
    let six : answer.status ≡ 6 = ap (λ (a : Answer). a.status) one in omega arith)
file_at (Some file) command told held (Some fault) before now old new is are ends (Answered answer one out) =
    let within : length held < length (named_files (Some command)) =
    slice_get_within (named_files (Some command)) (length held) file is in
    let first : first_lacking (needed (Some command) held) held ≡ Some file =
    first_lacking-within (named_files (Some command)) (line_files (Some command) held) held within ∙ is in
    let none : replies_before (Some command) held ≡ [] = no_replies command held within in
    record {
      held = held;
      are_held = are;
      file = file;
      is_needed = first;
      fault = fault;
      lost = rw first at ends;
      line = rw none (out.1 ∙ ap (λ (a : Answer). grown old a.output) one);
    }
file_at None (Diff pre post) told (bytes ∷ others ∷ held) lost before now old new is are ends
    (Answered answer one out) =
    absurd (not_four one.reply (out.0 ∙ ap (λ (a : Answer). a.status) one.told))
file_at None (Code image name) told (bytes ∷ held) lost before now old new is are ends (Answered answer one out) =
    absurd (not_four (code_reply bytes name) (out.0 ∙ ap (λ (a : Answer). a.status) one))
file_at None (Match image pre) told (bytes ∷ object ∷ held) lost before now old new is are ends
    (Answered answer one out) =
    absurd (not_four (match_reply bytes object) (out.0 ∙ ap (λ (a : Answer). a.status) one))
file_at None (Run image script) told (bytes ∷ lines ∷ held) lost before now old new is are ends
    (Answered answer one out) =
    session_at image script bytes lines (session_of bytes lines) held told lost before now old new refl are ends
    (out.0 ∙ ap (λ (a : Answer). a.status) one) (out.1 ∙ ap (λ (a : Answer). grown old a.output) one)
file_at None (Gen number) told held lost before now old new is are ends (Answered answer one out) =
    absurd (work_ends_not_with_four number (out.0 ∙ ap (λ (a : Answer). a.status) one))
file_at None (Link objects) told held lost before now old new is are ends (Answered answer one out) =
    absurd (not_four (link_reply held) (out.0 ∙ ap (λ (a : Answer). a.status) one.1))
file_at None (Diff pre post) told [] lost before now old new is are ends (Answered answer one out) = absurd one
file_at None (Diff pre post) told (bytes ∷ []) lost before now old new is are ends
    (Answered answer one out) = absurd one
file_at None (Code image name) told [] lost before now old new is are ends (Answered answer one out) = absurd one
file_at None (Match image pre) told [] lost before now old new is are ends (Answered answer one out) = absurd one
file_at None (Match image pre) told (bytes ∷ []) lost before now old new is are ends
    (Answered answer one out) = absurd one
file_at None (Run image script) told [] lost before now old new is are ends (Answered answer one out) = absurd one
file_at None (Run image script) told (bytes ∷ []) lost before now old new is are ends
    (Answered answer one out) = absurd one

pub ends_with_file : (asked : Option Asked) (told : Told) (before now : Counts) (old new : Option (List ℕ))
    → Answers asked told before now old new 4 → EndsWithFile asked told before now old new
ends_with_file None told before now old new a = absurd (no_file a.answer)
  where
    no_file : OneComesOut (λ answer. answer ≡ usage_answer) old new 4 → ⊥
    no_file (Answered answer one out) = let four : 4 ≡ answer.status =
        out.0 in let two : answer.status ≡ 2 = ap (λ (a : Answer). a.status) one in omega arith
    no_file (NoMemory s n) = omega (arith, s)
ends_with_file (Some command) told before now old new a =
    file_at (first_lacking (named_files (Some command)) a.held)
    command told a.held a.lost before now old new refl a.loads.are_held a.loads.ends a.answer

-- what the counts tell
rises_at : (asked : Option Asked) (files : List ℕ → Option (List ℕ)) (held : List (List ℕ))
    (first : Option Needed) (before now : Counts) → first_lacking (needed asked held) held ≡ first
    → AreHeld (Some files) (needed asked held) held
    → RoseFor files first before now → CountsTellOf asked files before now
rises_at asked files held None before now is are same =
    (λ rose. absurd (omega (arith, same.0)), λ rose. absurd (omega (arith, same.1)))
rises_at asked files held (Some file) before now is are tells = (
  λ rose. record { held = held; are_held = are; file = file; is_needed = is; is_so = tells.0 rose },
  λ rose. record { held = held; are_held = are; file = file; is_needed = is; is_so = tells.1 rose },
)

pub counts_tell : (asked : Option Asked) (files : List ℕ → Option (List ℕ)) (before now : Counts)
    (old new : Option (List ℕ)) (status : ℕ) → Answers asked (Some files) before now old new status
    → CountsTellOf asked files before now
counts_tell asked files before now old new status a =
    rises_at asked files a.held
    (first_lacking (needed asked a.held) a.held) before now refl a.loads.are_held (a.loads.rises files refl)

pub stay_or_loses : (asked : Option Asked) (told : Told) (before now : Counts) (old new : Option (List ℕ)) (status : ℕ)
    → Answers asked told before now old new status
    → (now ≡ before) ⊎ LosesOne (needed asked) told before now
stay_or_loses asked told before now old new status a =
    stays_or_loses_one (needed asked) told a.held a.lost before now a.loads

-- an answer by loads of which one was lost has status 4
four_by_lines : (file : Option Needed) (refused : Bool) (told : Told) (fault : FileFault) (before now : Counts)
    → EndsLoads told file (Some fault) before now
    → session_status file (Some fault) refused ≡ 4
four_by_lines None refused told fault before now ends = absurd ends
four_by_lines (Some file) refused told fault before now ends = refl

four_by_session : (read : Result (Watched × List Command) Refusal)
    (held : List (List ℕ)) (told : Told) (fault : FileFault) (before now : Counts)
    → EndsLoads told (first_lacking (session_files read) held) (Some fault) before now
    → (session_answer read held (Some fault)).status ≡ 4
four_by_session (Err refusal) held told fault before now ends = absurd ends
four_by_session (Ok session) held told fault before now ends =
    four_by_lines (lacking session.1 held) (session_played session.0 session.1 held).refused told fault before now ends

four_by : (first : Option Needed)
    (command : Asked) (told : Told) (held : List (List ℕ)) (fault : FileFault) (before now : Counts) (answer : Answer)
    → first_lacking (named_files (Some command)) held ≡ first
    → EndsLoads told (first_lacking (needed (Some command) held) held) (Some fault) before now
    → IsAnswerBy first command held (Some fault) answer → answer.status ≡ 4
four_by (Some file) command told held fault before now answer is ends one = ap (λ (a : Answer). a.status) one
four_by None (Diff pre post) told (bytes ∷ others ∷ held) fault before now answer is ends one = absurd ends
four_by None (Code image name) told (bytes ∷ held) fault before now answer is ends one = absurd ends
four_by None (Match image pre) told (bytes ∷ object ∷ held) fault before now answer is ends one = absurd ends
four_by None (Run image script) told (bytes ∷ lines ∷ held) fault before now answer is ends one =
    ap (λ (a : Answer). a.status) one ∙ four_by_session (session_of bytes lines) held told fault before now ends
four_by None (Gen number) told held fault before now answer is ends one = absurd ends
four_by None (Link objects) told held fault before now answer is ends one =
    absurd (subst (λ (file : Option Needed). EndsLoads told file (Some fault) before now)
    (no_object_lacks objects held is) ends)
four_by None (Diff pre post) told [] fault before now answer is ends one = absurd one
four_by None (Diff pre post) told (bytes ∷ []) fault before now answer is ends one = absurd one
four_by None (Code image name) told [] fault before now answer is ends one = absurd one
four_by None (Match image pre) told [] fault before now answer is ends one = absurd one
four_by None (Match image pre) told (bytes ∷ []) fault before now answer is ends one = absurd one
four_by None (Run image script) told [] fault before now answer is ends one = absurd one
four_by None (Run image script) told (bytes ∷ []) fault before now answer is ends one = absurd one

-- what the statuses 0, 3 and 7 tell of the counts
stay_at : (command : Asked) (told : Told) (held : List (List ℕ))
    (lost : Option FileFault) (before now : Counts) (old new : Option (List ℕ)) (status : ℕ) → IsReplied status
    → EndsLoads told (first_lacking (needed (Some command) held) held) lost before now
    → OneComesOut (IsAnswer (Some command) held lost) old new status → now ≡ before
stay_at command told held None before now old new status replied ends out = ends
stay_at command told held (Some fault) before now old new status replied ends (Answered answer one out) =
    let four =
    four_by (first_lacking (named_files (Some command)) held) command told held fault before now answer refl ends one in
    absurd (not_replied status answer.status replied (whole_status answer old new status replied out) (inr (inl four)))
stay_at command told held (Some fault) before now old new status replied ends (NoMemory s n) =
    absurd (not_replied status 6 replied s (inr (inr refl)))

stay_unasked : (told : Told) (lost : Option FileFault) (before now : Counts)
    → EndsLoads told None lost before now → now ≡ before
stay_unasked told None before now ends = ends
stay_unasked told (Some fault) before now ends = absurd ends

pub counts_stay : (asked : Option Asked) (told : Told) (before now : Counts) (old new : Option (List ℕ)) (status : ℕ)
    → Answers asked told before now old new status
    → (status ≡ 0) ⊎ (status ≡ 3) ⊎ (status ≡ 7) → now ≡ before
unfolding IsReplied
counts_stay None told before now old new status a replied = stay_unasked told a.lost before now a.loads.ends
counts_stay (Some command) told before now old new status a replied =
    stay_at command told a.held a.lost before now old new status replied a.loads.ends a.answer
