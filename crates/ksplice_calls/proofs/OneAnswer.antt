-- A call has one answer, since two objects have one extract.
use Rattle.std.proofs.Common.{◌≡◌, ℕ, List, [], ◌∷◌, Option, Some, None, Result, Ok, Err, sym, ap, subst, ◌∙◌}
use Rattle.std.specs.Result.{result_ok, result_err}
use Rattle.std.proofs.lemmas.Option.{same_Some}
use Rattle.ks_base.specs.declared.refusals.Refusal.{Refusal}
use Rattle.ks_io.specs.Loads.{Needed, CameTo, first_lacking}
use Rattle.ks_io.specs.Outside.{Counts}
use Rattle.ks_io.specs.declared.types.FileFault.{FileFault}
use Rattle.i386_reloc.specs.declared.types.NormalSection.{NormalSection}
use Rattle.extract_post.specs.declared.types.Extract.{Extract}
use Rattle.extract_post.specs.Extract.{Extracts}
use Rattle.ksplice_calls.specs.Answer.{Answer}
use Rattle.ksplice_calls.specs.Difference.{listing}
use Rattle.ksplice_calls.specs.Reply.{both_sections, IsDifference, IsReply, reply_answer}
use Rattle.ksplice_calls.specs.Reply.IsDifference.{Unread, NoneExtracted, Lists}
use Rattle.call_words.specs.Words.{Asked, Diff, Code, Match, Run, Gen, Link}
use Rattle.ksplice_calls.specs.Calls.{IsAnswer, IsAnswerBy, failed_load, named_files, needed}
use Rattle.ksplice_calls.proofs.OneLoading.{same_loads}

-- two objects have one extract or one refusal
abbrev HasOneExtract : Type 0
HasOneExtract = (pre post : List NormalSection) (one other : Result Extract Refusal)
    → Extracts pre post one → Extracts pre post other → one ≡ other

same_ok : {X Y : Type 0} (x y : X) → ◌≡◌ {A = Result X Y} (Ok x) (Ok y) → x ≡ y
same_ok x y e = same_Some x y (ap result_ok e)

same_err : {X Y : Type 0} (x y : Y) → ◌≡◌ {A = Result X Y} (Err x) (Err y) → x ≡ y
same_err x y e = same_Some x y (ap result_err e)

-- sections that are read twice are the same
read_twice : (pre post : List ℕ) (one other : List NormalSection × List NormalSection)
    → both_sections pre post ≡ Ok one → both_sections pre post ≡ Ok other → one ≡ other
read_twice pre post one other is is' = same_ok one other (sym is ∙ is')

moved : (one other : List NormalSection × List NormalSection) (result : Result Extract Refusal)
    → one ≡ other → Extracts one.0 one.1 result → Extracts other.0 other.1 result
moved one other result e extracts =
    subst (λ (both : List NormalSection × List NormalSection). Extracts both.0 both.1 result) e extracts

one_difference : HasOneExtract → (pre post : List ℕ) (one other : Result (List ℕ) Refusal)
    → IsDifference pre post one → IsDifference pre post other → one ≡ other
one_difference law pre post _ _ (Unread refusal read) (Unread refusal' read') =
    ap (λ r. Err r) (same_err refusal refusal' (sym read ∙ read'))
one_difference law pre post _ _ (Unread refusal read) (NoneExtracted old new refusal' read' _) =
    absurd (let e = sym read ∙ read' in cc)
one_difference law pre post _ _ (Unread refusal read) (Lists old new extract read' _) =
    absurd (let e = sym read ∙ read' in cc)
one_difference law pre post _ _ (NoneExtracted old new refusal read _) (Unread refusal' read') =
    absurd (let e = sym read ∙ read' in cc)
one_difference law pre post _ _
    (NoneExtracted old new refusal read none) (NoneExtracted old' new' refusal' read' none') =
    let both = read_twice pre post (old, new) (old', new') read read' in
    ap (λ r. Err r) (same_err refusal refusal'
    (law old' new' (Err refusal) (Err refusal') (moved (old, new) (old', new') (Err refusal) both none) none'))
one_difference law pre post _ _ (NoneExtracted old new refusal read none) (Lists old' new' extract read' some) =
    let both = read_twice pre post (old, new) (old', new') read read' in
    absurd (let e =
    law old' new' (Err refusal) (Ok extract) (moved (old, new) (old', new') (Err refusal) both none) some in cc)
one_difference law pre post _ _ (Lists old new extract read _) (Unread refusal' read') =
    absurd (let e = sym read ∙ read' in cc)
one_difference law pre post _ _ (Lists old new extract read some) (NoneExtracted old' new' refusal read' none) =
    let both = read_twice pre post (old, new) (old', new') read read' in
    absurd (let e =
    law old' new' (Ok extract) (Err refusal) (moved (old, new) (old', new') (Ok extract) both some) none in cc)
one_difference law pre post _ _ (Lists old new extract read some) (Lists old' new' extract' read' some') =
    let both = read_twice pre post (old, new) (old', new') read read' in
    let same = same_ok extract extract'
    (law old' new' (Ok extract) (Ok extract') (moved (old, new) (old', new') (Ok extract) both some) some') in
    λ i. Ok (listing (both i).0 (both i).1 (same i))

one_reply : HasOneExtract
    → (pre post : List ℕ) (one other : Answer) → IsReply pre post one → IsReply pre post other → one ≡ other
one_reply law pre post one other is is' =
    is.told
    ∙ ap reply_answer (one_difference law pre post is.reply is'.reply is.difference is'.difference) ∙ sym is'.told

one_by : HasOneExtract
    → (first : Option Needed) (command : Asked) (held : List (List ℕ)) (lost : Option FileFault) (one other : Answer)
    → IsAnswerBy first command held lost one → IsAnswerBy first command held lost other → one ≡ other
one_by law (Some file) command held lost one other is is' = is ∙ sym is'
one_by law None (Diff pre post) (old ∷ new ∷ held) lost one other is is' = one_reply law old new one other is is'
one_by law None (Code image name) (bytes ∷ held) lost one other is is' = is ∙ sym is'
one_by law None (Match image pre) (bytes ∷ object ∷ held) lost one other is is' = is ∙ sym is'
one_by law None (Run image script) (bytes ∷ lines ∷ held) lost one other is is' = is ∙ sym is'
one_by law None (Gen number) held lost one other is is' = is ∙ sym is'
one_by law None (Link objects) held lost one other is is' = is.1 ∙ sym is'.1
one_by law None (Diff pre post) [] lost one other is is' = absurd is
one_by law None (Diff pre post) (old ∷ []) lost one other is is' = absurd is
one_by law None (Code image name) [] lost one other is is' = absurd is
one_by law None (Match image pre) [] lost one other is is' = absurd is
one_by law None (Match image pre) (bytes ∷ []) lost one other is is' = absurd is
one_by law None (Run image script) [] lost one other is is' = absurd is
one_by law None (Run image script) (bytes ∷ []) lost one other is is' = absurd is

one_of : HasOneExtract → (asked : Option Asked) (held : List (List ℕ)) (lost : Option FileFault) (one other : Answer)
    → IsAnswer asked held lost one → IsAnswer asked held lost other → one ≡ other
one_of law None held lost one other is is' = is ∙ sym is'
one_of law (Some command) held lost one other is is' =
    one_by law (first_lacking (named_files (Some command)) held) command held lost one other is is'

pub one_answer : HasOneExtract → (files : List ℕ → Option (List ℕ)) (asked : Option Asked) (held held' : List (List ℕ))
    (lost lost' : Option FileFault) (before now before' now' : Counts) (one other : Answer)
    → CameTo (Some files) (needed asked held) held lost before now
    → CameTo (Some files) (needed asked held') held' lost' before' now'
    → failed_load held lost ≡ failed_load held' lost' → IsAnswer asked held lost one
    → IsAnswer asked held' lost' other → (one.status ≡ 6 → ⊥) → (other.status ≡ 6 → ⊥) → one ≡ other
one_answer
    law files asked held held' lost lost' before now before' now' one other loads loads' failed is is' ample ample' =
    let same = same_loads
    files asked held held' lost lost' before now before' now' one other loads loads' failed is is' ample ample' in
    one_of law asked held lost one other is (subst (λ (x : List (List ℕ)). IsAnswer asked x lost other)
    (sym same.0) (subst (λ (x : Option FileFault). IsAnswer asked held' x other) (sym same.1) is'))
