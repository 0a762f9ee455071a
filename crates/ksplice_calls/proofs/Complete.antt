-- Where nothing fails and no file lacks the whole reply comes out.
use Rattle.std.proofs.Common.{◌≡◌, ◌⊎◌, inl, inr, ℕ, Bool, true, false, List, [], ◌∷◌}
use Rattle.std.proofs.Common.{◌||◌, ◌==◌, MatchBool, Option, Some, None, Result, Ok, Err, refl, sym, ◌∙◌, ap, subst}
use Rattle.std.proofs.lemmas.Bool.{eq-eqb, eqb-true}
use Rattle.ks_base.specs.declared.refusals.Refusal.{Refusal}
use Rattle.ks_base.specs.declared.refusals.Refusal.TheVariants.{BadImage, BadLine}
use Rattle.ks_io.specs.Outside.{Counts, Rose, TookFront, grown}
use Rattle.ks_io.specs.Loads.{Needed, EndsLoads, CameTo, first_lacking}
use Rattle.ks_io.specs.declared.types.FileFault.{FileFault}
use Rattle.ks_io.specs.declared.types.FileFault.TheVariants.{Missing, TooLong, Failed, Memory}
use Rattle.script_lines.specs.declared.types.Command.{Command}
use Rattle.ksplice_session.specs.Watching.{Watched}
use Rattle.ksplice_session.specs.Session.{session_played}
use Rattle.ksplice_calls.specs.Answer.{Answer, OneComesOut, Answered, NoMemory, ComesOut, refused_status}
use Rattle.ksplice_calls.specs.Calls.{named_files, needed, IsReplyTo, IsAnswer, IsAnswerBy, Answers}
use Rattle.ksplice_calls.specs.Promises.{AllAreGiven, RepliesWhole}
use Rattle.ksplice_calls.specs.Reply.{code_reply, match_reply, reply_answer, session_of, session_status, session_answer, session_files}
use Rattle.ksplice_calls.specs.Linking.{link_reply}
use Rattle.call_words.specs.Words.{Asked, Diff, Code, Match, Run, Gen, Link}
use Rattle.ksplice_calls.specs.Works.{gen_answer}
use Rattle.ksplice_calls.proofs.OneLoading.{all_are_loaded}
use Rattle.ksplice_calls.proofs.WorkAnswers.{work_ends}

-- statuses 0, 3 and 7
abbrev IsReplied : ℕ → Type 0
IsReplied status = (status ≡ 0) ⊎ (status ≡ 3) ⊎ (status ≡ 7)

-- the status of a reply, where no file lacks
refused : (refusal : Refusal) → IsReplied (refused_status refusal)
refused (BadImage offset fault) = inr (inr refl)
refused (BadLine number) = inr (inr refl)
refused other = inr (inl refl)

replied : (reply : Result (List ℕ) Refusal) → IsReplied (reply_answer reply).status
replied (Ok lines) = inl refl
replied (Err refusal) = refused refusal

lines_end : (refused : Bool) → IsReplied (session_status None None refused)
lines_end true = inr (inl refl)
lines_end false = inl refl

session_ends : (read : Result (Watched × List Command) Refusal) (held : List (List ℕ))
    → first_lacking (session_files read) held ≡ None → IsReplied (session_answer read held None).status
session_ends (Err refusal) held whole = refused refusal
session_ends (Ok session) held whole =
    subst (λ (first : Option Needed).
    IsReplied (session_status first None (session_played session.0 session.1 held).refused))
    (sym whole) (lines_end (session_played session.0 session.1 held).refused)

work_replied : (number : ℕ) → IsReplied (gen_answer number).status
work_replied number = by (work_ends number)
  where
    by : ((gen_answer number).status ≡ 0) ⊎ ((gen_answer number).status ≡ 3) → IsReplied (gen_answer number).status
    by (inl e) = inl e
    by (inr e) = inr (inl e)

moved : (one other : Answer) → one ≡ other → IsReplied other.status → IsReplied one.status
moved one other same = subst (λ (a : Answer). IsReplied a.status) (sym same)

reply_ends : (command : Asked) (all : List (List ℕ)) (answer : Answer) → IsReplyTo command all None answer
    → first_lacking (needed (Some command) all) all ≡ None → IsReplied answer.status
reply_ends (Diff pre post) (old ∷ new ∷ held) answer one whole =
    moved answer (reply_answer one.reply) one.told (replied one.reply)
reply_ends (Code image name) (bytes ∷ held) answer one whole =
    moved answer (reply_answer (code_reply bytes name)) one (replied (code_reply bytes name))
reply_ends (Match image pre) (bytes ∷ object ∷ held) answer one whole =
    moved answer (reply_answer (match_reply bytes object)) one (replied (match_reply bytes object))
reply_ends (Run image script) (bytes ∷ lines ∷ held) answer one whole =
    moved answer (session_answer (session_of bytes lines) held None) one
    (session_ends (session_of bytes lines) held whole)
reply_ends (Gen number) all answer one whole = moved answer (gen_answer number) one (work_replied number)
reply_ends (Link objects) all answer one whole =
    moved answer (reply_answer (link_reply all)) one.1 (replied (link_reply all))
reply_ends (Diff pre post) [] answer one whole = absurd one
reply_ends (Diff pre post) (old ∷ []) answer one whole = absurd one
reply_ends (Code image name) [] answer one whole = absurd one
reply_ends (Match image pre) [] answer one whole = absurd one
reply_ends (Match image pre) (bytes ∷ []) answer one whole = absurd one
reply_ends (Run image script) [] answer one whole = absurd one
reply_ends (Run image script) (bytes ∷ []) answer one whole = absurd one

-- no load was failed by the outside, whose faults have not risen
none_failed : (files : List ℕ → Option (List ℕ)) (first : Option Needed) (lost : Option FileFault) (before now : Counts)
    → EndsLoads (Some files) first lost before now → (Rose before.faults now.faults → ⊥) → lost ≡ Some Failed → ⊥
none_failed files None None before now ends quiet failed = absurd (cc)
none_failed files (Some file) None before now ends quiet failed = absurd (cc)
none_failed files None (Some fault) before now ends quiet failed = absurd ends
none_failed files (Some file) (Some Failed) before now ends quiet failed = quiet ends.shown
none_failed files (Some file) (Some Missing) before now ends quiet failed = absurd (cc)
none_failed files (Some file) (Some TooLong) before now ends quiet failed = absurd (cc)
none_failed files (Some file) (Some Memory) before now ends quiet failed = absurd (cc)

-- an answer with another status than 6, where nothing was lost, is the reply
is_reply : (first : Option Needed) (command : Asked) (all : List (List ℕ)) (answer : Answer)
    → IsAnswerBy first command all None answer → (answer.status ≡ 6 → ⊥) → IsReplyTo command all None answer
is_reply None command all answer one ample = one
is_reply (Some file) command all answer one ample = absurd (ample (ap (λ (a : Answer). a.status) one))

-- an answer that came out with another status than 5 and 6 is whole
neither : (P Q : Type 0) (five six : Bool)
    → MatchBool (five || six) P Q → (five ≡ true → ⊥) → (six ≡ true → ⊥) → Q
neither P Q true six out no_five no_six = absurd (no_five refl)
neither P Q false true out no_five no_six = absurd (no_six refl)
neither P Q false false out no_five no_six = out

came_out : (answer : Answer) (old new : Option (List ℕ)) (status : ℕ)
    → ComesOut answer old new status → (status ≡ 5 → ⊥) → (status ≡ 6 → ⊥)
    → (status ≡ answer.status) × (new ≡ grown old answer.output)
came_out answer old new status out sound ample =
    neither (TookFront old answer.output new) ((status ≡ answer.status) × (new ≡ grown old answer.output))
    (status == 5) (status == 6) out (λ e. sound (eqb-true status 5 e)) (λ e. ample (eqb-true status 6 e))

whole_reply : (command : Asked) (files : List ℕ → Option (List ℕ)) (all : List (List ℕ))
    (before now : Counts) (old new : Option (List ℕ)) (status : ℕ)
    → AllAreGiven (Some command) files all → (Rose before.faults now.faults → ⊥)
    → (held : List (List ℕ)) (lost : Option FileFault)
    → CameTo (Some files) (needed (Some command) held) held lost before now
    → (answer : Answer) → IsAnswer (Some command) held lost answer
    → (status ≡ answer.status) × (new ≡ grown old answer.output) → (answer.status ≡ 6 → ⊥)
    → RepliesWhole command all old new status
whole_reply command files all before now old new status given quiet held lost loads answer one out ample =
    let same = all_are_loaded files (Some command) held all lost before now answer loads given.are_given
    given.none_lacks (none_failed files _ lost before now loads.ends quiet) one ample in
    let there : IsAnswer (Some command) all None answer =
    subst (λ (x : Option FileFault). IsAnswer (Some command) all x answer) same.1
    (subst (λ (x : List (List ℕ)). IsAnswer (Some command) x lost answer) same.0 one) in
    let reply = is_reply (first_lacking (named_files (Some command)) all) command all answer there ample in
    record {
      answer = answer;
      reply = reply;
      whole = out.1;
      ends = out.0;
      replied = subst (λ (x : ℕ). IsReplied x) (sym out.0) (reply_ends command all answer reply given.none_lacks);
    }

pub complete : (command : Asked) (files : List ℕ → Option (List ℕ)) (all : List (List ℕ))
    (before now : Counts) (old new : Option (List ℕ)) (status : ℕ)
    → Answers (Some command) (Some files) before now old new status → AllAreGiven (Some command) files all
    → (Rose before.faults now.faults → ⊥) → (status ≡ 5 → ⊥)
    → (status ≡ 6) ⊎ RepliesWhole command all old new status
complete command files all before now old new status a given quiet sound = by (status == 6) refl a.answer
  where
    by : (six : Bool) → (status == 6) ≡ six → OneComesOut (IsAnswer (Some command) a.held a.lost) old new status
        → (status ≡ 6) ⊎ RepliesWhole command all old new status
    by true is out = inl (eqb-true status 6 is)
    by false is (NoMemory s n) = inl s
    by false is (Answered answer one out) =
        let other : status ≡ 6 → ⊥ = λ e. absurd (let six : false ≡ true = sym is ∙ eq-eqb status 6 e in cc) in
        let came = came_out answer old new status out sound other in
        inr (whole_reply command files all before now old new status given quiet a.held a.lost a.loads answer one came
        (λ e. other (came.0 ∙ e)))
