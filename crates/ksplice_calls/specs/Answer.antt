-- What a call answers: its output and its status.
use Rattle.std.specs.Prelude.{◌≡◌, ℕ, ◌||◌, ◌==◌, List, ◌++◌, codes, Option, Some, None, MatchBool}
use Rattle.ks_base.specs.declared.refusals.Refusal.{Refusal}
use Rattle.ks_base.specs.declared.refusals.Refusal.TheVariants.{BadImage, BadLine}
use Rattle.ks_base.specs.Refusals.{refusal_line}
use Rattle.ks_io.specs.Loads.{Needed}
use Rattle.ks_io.specs.Outside.{grown, TookFront}
use Rattle.ks_io.specs.declared.types.FileFault.{FileFault}
use Rattle.ksplice_session.specs.Session.{lost_line}

pub record Answer : Type 0 where
  pub output : List ℕ
  pub status : ℕ

abbrev pub answer_of : List ℕ → ℕ → Answer
answer_of output status = record { output = output; status = status }

-- the line for words without a reading, with status 2
abbrev pub usage_answer : Answer
usage_answer = record {
  output = codes "usage: ksplice diff PRE POST | code IMAGE NAME | match IMAGE PRE | run IMAGE SCRIPT | gen NUMBER"
      ++ codes " | link OBJECT...\n";
  status = 2;
}

-- the status of a refusal: 7 for what isn't in the form of an image or of a script, and 3 for all others
abbrev pub refused_status : Refusal → ℕ
refused_status (BadImage offset fault) = 7
refused_status (BadLine number) = 7
refused_status other = 3

-- the line of a refusal, with its status
abbrev pub refused_answer : Refusal → Answer
refused_answer refusal = record { output = refusal_line refusal; status = refused_status refusal }

-- the status where a file is lacking: 4 for a fault of the outside, and 6 where memory ran out
abbrev pub lost_status : Option FileFault → ℕ
lost_status None = 6
lost_status (Some fault) = 4

-- the line of a file that was not loaded, with its status; there is no line where memory ran out
abbrev pub lost_answer : Needed → Option FileFault → Answer
lost_answer file lost = answer_of (lost_line (Some file) lost) (lost_status lost)

-- An answer comes out: with its status and its whole output; or with 5, for a fault of the sink, or 6, where memory ran
-- out, and a prefix of its output.
abbrev pub ComesOut : Answer → Option (List ℕ) → Option (List ℕ) → ℕ → Type 0
ComesOut answer old new status =
    MatchBool (status == 5 || status == 6)
    (TookFront old answer.output new)
    ((status ≡ answer.status) × (new ≡ grown old answer.output))

-- One of these answers comes out; or memory ran out before there was one, and nothing came out.
pub data OneComesOut (IsOne : Answer → Type 0) (old new : Option (List ℕ)) (status : ℕ) : Type 0 where
  Answered : (answer : Answer) → IsOne answer → ComesOut answer old new status → OneComesOut IsOne old new status
  NoMemory : status ≡ 6 → new ≡ old → OneComesOut IsOne old new status
