-- How a reply comes out that is all bytes or a refusal: that to `code`, to `match` and to `link`.
use Rattle.std.proofs.Common.{◌≡◌, ◌≢◌, ◌∙◌, ℕ, List, Option, Result, Ok, Err, sym, ap}
use Rattle.ks_base.specs.declared.refusals.Refusal.{Refusal}
use Rattle.ks_base.specs.declared.refusals.Refusal.TheVariants.{Memory}
use Rattle.ksplice_calls.specs.Answer.{ComesOut, OneComesOut, Answered, answer_of, refused_answer}
use Rattle.ksplice_calls.specs.Reply.{reply_answer}
use Rattle.ksplice_calls.proofs.Replies.{refusal_is_one}

-- the bytes come out
pub reply_comes_out : (reply : Result (List ℕ) Refusal)
    (bytes output : List ℕ) (old new : Option (List ℕ)) (status : ℕ)
    → reply ≡ Ok bytes → output ≡ bytes → ComesOut (answer_of output 0) old new status
    → OneComesOut (λ answer. answer ≡ reply_answer reply) old new status
reply_comes_out reply bytes output old new status is same out =
    Answered (answer_of output 0) (ap (λ x. answer_of x 0) same ∙ ap reply_answer (sym is)) out

-- the refusal comes out
pub refused_reply_comes_out : (reply : Result (List ℕ) Refusal)
    (refusal : Refusal) (old new : Option (List ℕ)) (status : ℕ)
    → (refusal ≢ Memory → reply ≡ Err refusal)
    → (refusal ≢ Memory → ComesOut (refused_answer refusal) old new status)
    → (refusal ≡ Memory → (status ≡ 6) × (new ≡ old))
    → OneComesOut (λ answer. answer ≡ reply_answer reply) old new status
refused_reply_comes_out reply refusal old new status is =
    refusal_is_one (λ answer. answer ≡ reply_answer reply) refusal old new status
    (λ ample. ap reply_answer (sym (is ample)))
