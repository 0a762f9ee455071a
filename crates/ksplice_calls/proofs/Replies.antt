-- How a reply comes about, and comes out.
use Rattle.std.proofs.Common.{◌≡◌, ◌≢◌, ◌⊎◌, inl, inr, ℕ, List, Option}
use Rattle.std.proofs.Common.{Result, Ok, Err, IfOk, IfErr, refl, subst}
use Rattle.ks_base.specs.declared.refusals.Refusal.{Refusal}
use Rattle.ks_base.specs.declared.refusals.Refusal.TheVariants.{Memory}
use Rattle.i386_reloc.specs.declared.types.NormalSection.{NormalSection}
use Rattle.extract_post.specs.Extract.{Extracts}
use Rattle.ksplice_calls.specs.Answer.{Answer, ComesOut, OneComesOut, Answered, NoMemory}
use Rattle.ksplice_calls.specs.Answer.{answer_of, refused_answer, usage_answer}
use Rattle.ksplice_calls.specs.Reply.{IsDifference, NoneExtracted, Lists, Listed, IsReply, both_sections}

-- the lines of an extract are the difference
pub listed : (pre post : List ℕ) (old new : List NormalSection) (result : Result (List ℕ) Refusal)
    → both_sections pre post ≡ Ok (old, new)
    → IfOk result (λ lines. Listed old new lines) → IfOk result (λ lines. IsDifference pre post (Ok lines))
listed pre post old new (Ok lines) read l = rw l.lists (Lists old new l.extract read l.extracts)
listed pre post old new (Err refusal) read l = tt

-- why there is no extract is why there is no difference
pub none_extracted : (pre post : List ℕ) (old new : List NormalSection) (result : Result (List ℕ) Refusal)
    → both_sections pre post ≡ Ok (old, new)
    → IfErr result (λ refusal. refusal ≢ Memory → Extracts old new (Err refusal))
    → IfErr result (λ refusal. refusal ≢ Memory → IsDifference pre post (Err refusal))
none_extracted pre post old new (Ok lines) read none = tt
none_extracted pre post old new (Err refusal) read none = λ ample. NoneExtracted old new refusal read (none ample)

-- the lines of a difference come out
pub lines_come_out : (pre post lines output : List ℕ) (old new : Option (List ℕ)) (status : ℕ)
    → IsDifference pre post (Ok lines) → output ≡ lines
    → ComesOut (answer_of output 0) old new status → OneComesOut (IsReply pre post) old new status
lines_come_out pre post lines output old new status difference e out =
    Answered (answer_of lines 0) (record { reply = Ok lines; difference = difference; told = refl })
    (subst (λ (x : List ℕ). ComesOut (answer_of x 0) old new status) e out)

-- a refusal comes out, unless it is that memory ran out
is_memory : (refusal : Refusal) → (refusal ≡ Memory) ⊎ (refusal ≢ Memory)
is_memory Memory = inl refl
is_memory other = inr (λ e. cc)

refusal_by : (IsOne : Answer → Type 0) (refusal : Refusal) (old new : Option (List ℕ)) (status : ℕ)
    → (refusal ≡ Memory) ⊎ (refusal ≢ Memory)
    → (refusal ≢ Memory → IsOne (refused_answer refusal))
    → (refusal ≢ Memory → ComesOut (refused_answer refusal) old new status)
    → (refusal ≡ Memory → (status ≡ 6) × (new ≡ old))
    → OneComesOut IsOne old new status
refusal_by IsOne refusal old new status (inl e) one out memory = let m = memory e in NoMemory m.0 m.1
refusal_by IsOne refusal old new status (inr ample) one out memory =
    Answered (refused_answer refusal) (one ample) (out ample)

pub refusal_is_one : (IsOne : Answer → Type 0) (refusal : Refusal) (old new : Option (List ℕ)) (status : ℕ)
    → (refusal ≢ Memory → IsOne (refused_answer refusal))
    → (refusal ≢ Memory → ComesOut (refused_answer refusal) old new status)
    → (refusal ≡ Memory → (status ≡ 6) × (new ≡ old))
    → OneComesOut IsOne old new status
refusal_is_one IsOne refusal old new status = refusal_by IsOne refusal old new status (is_memory refusal)

-- why there is no difference comes out
pub refusal_comes_out : (pre post : List ℕ) (refusal : Refusal) (old new : Option (List ℕ)) (status : ℕ)
    → (refusal ≢ Memory → IsDifference pre post (Err refusal))
    → (refusal ≢ Memory → ComesOut (refused_answer refusal) old new status)
    → (refusal ≡ Memory → (status ≡ 6) × (new ≡ old))
    → OneComesOut (IsReply pre post) old new status
refusal_comes_out pre post refusal old new status difference =
    refusal_is_one (IsReply pre post) refusal old new status
    (λ ample. record { reply = Err refusal; difference = difference ample; told = refl })

-- the usage line comes out, where the words have no reading
pub usage_comes_out : (output : List ℕ) (old new : Option (List ℕ)) (status : ℕ)
    → output ≡ usage_answer.output
    → ComesOut (answer_of output 2) old new status → ComesOut usage_answer old new status
usage_comes_out output old new status e out = subst (λ (x : List ℕ). ComesOut (answer_of x 2) old new status) e out
