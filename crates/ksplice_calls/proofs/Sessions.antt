-- How a session's end, or why there is none, makes the answer of `run`.
use Rattle.std.proofs.Common.{◌≡◌, ◌≢◌, ℕ, List, [], Option, None, Ok, Err, refl, sym, ap, ◌∙◌}
use Rattle.std.proofs.lemmas.List.{append-nil}
use Rattle.ks_base.specs.declared.refusals.Refusal.{Refusal}
use Rattle.ks_base.specs.declared.refusals.Refusal.TheVariants.{Memory}
use Rattle.ks_io.specs.Outside.{Counts, TookFront, grown}
use Rattle.ks_io.specs.Loads.{Told}
use Rattle.ks_io.specs.laws.LoadLaws.{CameTo-nothing}
use Rattle.ks_io.specs.declared.types.FileFault.{FileFault}
use Rattle.script_lines.specs.declared.types.Command.{Command}
use Rattle.ksplice_session.specs.Watching.{Watched}
use Rattle.ksplice_session.specs.Session.{Ends, AllDone, AllRun, FileStopped, SinkStopped, SinkAtFile}
use Rattle.ksplice_session.specs.Session.{MemoryInLine, MemoryAfterLine, MemoryAtFile, SessionEnds, whole_output}
use Rattle.ksplice_session.specs.declared.types.SessionEnd.{SessionEnd}
use Rattle.ksplice_calls.specs.Answer.{ComesOut, Answered, refused_answer}
use Rattle.ksplice_calls.specs.Calls.{RunAnswers, end_status}
use Rattle.ksplice_calls.specs.Reply.{session_of, session_answer, lines_answer, run_answer, session_files}
use Rattle.ksplice_calls.proofs.Replies.{refusal_is_one}

-- the answer to the lines comes out
lines_come_out : (k : Watched) (script : List Command)
    (held : List (List ℕ)) (lost : Option FileFault) (old new : Option (List ℕ)) (now : Watched) (end : SessionEnd)
    → Ends k script held lost old new now end → TookFront old (whole_output k script held lost) new
    → ComesOut (lines_answer k script held lost) old new (end_status end)
lines_come_out k script held lost old new now _ (AllDone all none taken _) front =
    (rw (all, none) refl, rw all (taken ∙ ap (grown old) (sym (append-nil _))))
lines_come_out k script held lost old new now _ (AllRun all some taken _) front =
    (rw (all, some) refl, rw all (taken ∙ ap (grown old) (sym (append-nil _))))
lines_come_out k script held lost old new now _ (FileStopped file fault lacks is taken _) front =
    (rw (lacks, is) refl, rw (lacks, is) taken)
lines_come_out k script held lost old new now _ (SinkStopped _ _ _ _) front = front
lines_come_out k script held lost old new now _ (SinkAtFile _ _ _ _ _ _) front = front
lines_come_out k script held lost old new now _ (MemoryInLine _ _ _ _) front = front
lines_come_out k script held lost old new now _ (MemoryAfterLine _ _ _ _) front = front
lines_come_out k script held lost old new now _ (MemoryAtFile _ _ _ _) front = front

-- The session of image and script ended.
pub session_answers : (image script : List ℕ) (k : Watched) (lines : List Command)
    (told : Told) (before after : Counts) (old new : Option (List ℕ)) (now : Watched) (end : SessionEnd) (status : ℕ)
    → session_of image script ≡ Ok (k, lines) → SessionEnds told k lines before after old new now end
    → status ≡ end_status end → RunAnswers image script told before after old new status
session_answers image script k lines told before after old new now end status read ends is = record {
  held = ends.held;
  lost = ends.lost;
  loads = rw read ends.loads;
  answer = Answered (run_answer image script ends.held ends.lost) refl
      (rw (is, read) (lines_come_out k lines ends.held ends.lost old new now end ends.ends ends.front));
}

-- There is no session, and why comes out.
pub no_session_answers : (image script : List ℕ)
    (refusal : Refusal) (told : Told) (before : Counts) (old new : Option (List ℕ)) (status : ℕ)
    → (refusal ≢ Memory → session_of image script ≡ Err refusal)
    → (refusal ≢ Memory → ComesOut (refused_answer refusal) old new status)
    → (refusal ≡ Memory → (status ≡ 6) × (new ≡ old))
    → RunAnswers image script told before before old new status
no_session_answers image script refusal told before old new status read out memory = record {
  held = [];
  lost = None;
  loads = CameTo-nothing told (session_files (session_of image script)) before;
  answer = refusal_is_one (λ answer. answer ≡ run_answer image script [] None) refusal old new status
      (λ ample. ap (λ read. session_answer read [] None) (sym (read ample))) out memory;
}
