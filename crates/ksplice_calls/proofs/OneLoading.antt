-- What loading came to is the same, over given files, where the outside failed the same load or none, and memory didn't
-- run out.
use Rattle.std.proofs.Common.{◌≡◌, ℕ, ◌<◌, ◌≤◌, Bool, List, [], ◌∷◌, length, Option, Some}
use Rattle.std.proofs.Common.{None, Result, Ok, Err, refl, sym, ◌∙◌, ap, subst, arith}
use Rattle.std.proofs.lemmas.List.{append-nil}
use Rattle.std.proofs.lemmas.Option.{same_Some}
use Rattle.ks_base.specs.declared.refusals.Refusal.{Refusal}
use Rattle.ks_io.specs.Outside.{Counts, IsLonger}
use Rattle.ks_io.specs.Loads.{Needed, AreHeld, IsHeld, FaultTells, EndsLoads, CameTo, first_lacking}
use Rattle.ks_io.specs.declared.types.FileFault.{FileFault}
use Rattle.ks_io.specs.declared.types.FileFault.TheVariants.{Missing, TooLong, Failed, Memory}
use Rattle.script_lines.specs.declared.types.Command.{Command}
use Rattle.ksplice_session.specs.Watching.{Watched}
use Rattle.ksplice_session.specs.Session.{lacking, session_played}
use Rattle.ksplice_calls.specs.Answer.{Answer}
use Rattle.ksplice_calls.specs.Calls.{failed_load, named_files, needed, IsAnswer, IsAnswerBy}
use Rattle.ksplice_calls.specs.Reply.{session_of, session_status, session_answer, session_files}
use Rattle.call_words.specs.Words.{Asked, Diff, Code, Match, Run, Gen, Link}

-- loads that ended for a fault, or were all made
Ended : (List ℕ → Option (List ℕ)) → Option Needed → Option FileFault → Type 0
Ended files None lost = lost ≡ None
Ended files (Some file) None = ⊥
Ended files (Some file) (Some fault) = FaultTells fault file.limit (files file.name)

-- where the one failed, the other did at the same load
FailsAs : List (List ℕ) → Option FileFault → List (List ℕ) → Option FileFault → Type 0
FailsAs held lost held' lost' = lost ≡ Some Failed → (lost' ≡ Some Failed) × (length held ≡ length held')

fails_as : (held held' : List (List ℕ)) (lost lost' : Option FileFault)
    → failed_load held lost ≡ failed_load held' lost' → FailsAs held lost held' lost'
unfolding FailsAs
fails_as held held' lost lost' same failed =
    by lost' (subst (λ (x : Option FileFault). failed_load held x ≡ failed_load held' lost') failed same)
  where
    by : (other : Option FileFault)
        → Some (length held) ≡ failed_load held' other → (other ≡ Some Failed) × (length held ≡ length held')
    by None e = absurd (cc)
    by (Some Missing) e = absurd (cc)
    by (Some TooLong) e = absurd (cc)
    by (Some Failed) e = (refl, same_Some _ _ e)
    by (Some Memory) e = absurd (cc)

-- a file that is held wasn't lost, unless the outside failed
not_both : (files : List ℕ → Option (List ℕ)) (file : Needed) (bytes : List ℕ) (fault : FileFault)
    → FaultTells fault file.limit (files file.name) → IsHeld (Some files) file bytes
    → (fault ≡ Failed → ⊥) → ⊥
not_both files file bytes Missing tells held ample =
    let is : files file.name ≡ Some bytes = held.is_told files refl in cc
not_both files file bytes TooLong tells held ample =
    let longer : IsLonger file.limit (Some bytes) =
    subst (λ (found : Option (List ℕ)). IsLonger file.limit found) (held.is_told files refl) tells in
    let more : file.limit < length bytes = longer in
    let fits : length bytes ≤ file.limit = held.fits in omega arith
not_both files file bytes Failed tells held ample = ample refl
not_both files file bytes Memory tells held ample = tells

-- two faults of one file
missing_or_longer : (limit : ℕ) (file : Option (List ℕ)) → file ≡ None → IsLonger limit file → ⊥
missing_or_longer limit file none longer =
    let ample : IsLonger limit None = subst (λ (found : Option (List ℕ)). IsLonger limit found) none longer in ample

one_fault : (limit : ℕ) (file : Option (List ℕ)) (fault fault' : FileFault)
    → FaultTells fault limit file → FaultTells fault' limit file
    → (fault ≡ Failed → fault' ≡ Failed) → (fault' ≡ Failed → fault ≡ Failed) → fault ≡ fault'
one_fault limit file Missing Missing tells tells' to from = refl
one_fault limit file Missing TooLong tells tells' to from = absurd (missing_or_longer limit file tells tells')
one_fault limit file TooLong Missing tells tells' to from = absurd (missing_or_longer limit file tells' tells)
one_fault limit file TooLong TooLong tells tells' to from = refl
one_fault limit file Failed fault' tells tells' to from = sym (to refl)
one_fault limit file fault Failed tells tells' to from = from refl
one_fault limit file Memory fault' tells tells' to from = absurd tells
one_fault limit file fault Memory tells tells' to from = absurd tells'

shorter : (h h' : List (List ℕ)) (b b' : List ℕ) (lost lost' : Option FileFault)
    → FailsAs (b ∷ h) lost (b' ∷ h') lost' → FailsAs h lost h' lost'
unfolding FailsAs
shorter h h' b b' lost lost' same failed = let more = same failed in (more.0, omega (arith, more.1))

never_at : (b : List ℕ) (h : List (List ℕ)) (fault : FileFault) (lost : Option FileFault)
    → FailsAs [] (Some fault) (b ∷ h) lost → fault ≡ Failed → ⊥
unfolding FailsAs
never_at b h fault lost same failed = omega (arith, (same (ap (λ (x : FileFault). Some x) failed)).1)

same_by : (files : List ℕ → Option (List ℕ))
    (needs : List Needed) (held held' : List (List ℕ)) (lost lost' : Option FileFault)
    → AreHeld (Some files) needs held → AreHeld (Some files) needs held'
    → Ended files (first_lacking needs held) lost → Ended files (first_lacking needs held') lost'
    → FailsAs held lost held' lost' → FailsAs held' lost' held lost → (held ≡ held') × (lost ≡ lost')
unfolding Ended FailsAs
same_by files [] [] [] lost lost' are are' ends ends' same back = (refl, ends ∙ sym ends')
same_by files [] (b ∷ h) held' lost lost' are are' ends ends' same back = absurd are
same_by files [] [] (b ∷ h) lost lost' are are' ends ends' same back = absurd are'
same_by files (f ∷ needs) [] [] None lost' are are' ends ends' same back = absurd ends
same_by files (f ∷ needs) [] [] (Some fault) None are are' ends ends' same back = absurd ends'
same_by files (f ∷ needs) [] [] (Some fault) (Some fault') are are' ends ends' same back = (
  refl,
  ap (λ (x : FileFault). Some x) (one_fault f.limit (files f.name) fault fault' ends ends'
      (λ e. same_Some _ _ (same (ap (λ (x : FileFault). Some x) e)).0)
      (λ e. same_Some _ _ (back (ap (λ (x : FileFault). Some x) e)).0)),
)
same_by files (f ∷ needs) [] (b ∷ h) None lost' are are' ends ends' same back = absurd ends
same_by files (f ∷ needs) [] (b ∷ h) (Some fault) lost' are are' ends ends' same back =
    absurd (not_both files f b fault ends are'.0 (never_at b h fault lost' same))
same_by files (f ∷ needs) (b ∷ h) [] lost None are are' ends ends' same back = absurd ends'
same_by files (f ∷ needs) (b ∷ h) [] lost (Some fault) are are' ends ends' same back =
    absurd (not_both files f b fault ends' are.0 (never_at b h fault lost back))
same_by files (f ∷ needs) (b ∷ h) (b' ∷ h') lost lost' are are' ends ends' same back =
    let rest = same_by files needs h h' lost lost' are.1 are'.1 ends ends'
    (shorter h h' b b' lost lost' same) (shorter h' h b' b lost' lost back) in
    let e : b ≡ b' = same_Some b b' (sym (are.0.is_told files refl) ∙ are'.0.is_told files refl) in
    ((λ i. e i ∷ rest.0 i), rest.1)

-- the files of a call are held or lost in one way
same_run : (files : List ℕ → Option (List ℕ))
    (image script : List ℕ) (held held' : List (List ℕ)) (lost lost' : Option FileFault)
    → AreHeld (Some files) (needed (Some (Run image script)) held) held
    → AreHeld (Some files) (needed (Some (Run image script)) held') held'
    → Ended files (first_lacking (needed (Some (Run image script)) held) held) lost
    → Ended files (first_lacking (needed (Some (Run image script)) held') held') lost'
    → FailsAs held lost held' lost' → FailsAs held' lost' held lost → (held ≡ held') × (lost ≡ lost')
unfolding Ended FailsAs
same_run files image script [] [] lost lost' are are' ends ends' same back =
    same_by files (named_files (Some (Run image script))) [] [] lost lost' are are' ends ends' same back
same_run files image script [] (b ∷ []) lost lost' are are' ends ends' same back =
    same_by files (named_files (Some (Run image script))) [] (b ∷ []) lost lost' are are' ends ends' same back
same_run files image script (b ∷ []) [] lost lost' are are' ends ends' same back =
    same_by files (named_files (Some (Run image script))) (b ∷ []) [] lost lost' are are' ends ends' same back
same_run files image script (b ∷ []) (b' ∷ []) lost lost' are are' ends ends' same back =
    same_by files (named_files (Some (Run image script))) (b ∷ []) (b' ∷ []) lost lost' are are' ends ends' same back
same_run files image script [] (b ∷ c ∷ h) lost lost' are are' ends ends' same back =
    let ample = same_by files (named_files (Some (Run image script))) [] (b ∷ c ∷ []) lost None are
    (are'.0, (are'.1.0, tt)) ends refl (λ e. absurd (omega (arith, (same e).1))) (λ e. absurd (cc)) in
    absurd (let e = ample.0 in cc)
same_run files image script (a ∷ []) (b ∷ c ∷ h) lost lost' are are' ends ends' same back =
    let ample = same_by files (named_files (Some (Run image script))) (a ∷ []) (b ∷ c ∷ []) lost None are
    (are'.0, (are'.1.0, tt)) ends refl (λ e. absurd (omega (arith, (same e).1))) (λ e. absurd (cc)) in
    absurd (let e = ample.0 in cc)
same_run files image script (b ∷ c ∷ h) [] lost lost' are are' ends ends' same back =
    let ample = same_by files (named_files (Some (Run image script))) (b ∷ c ∷ []) [] None lost'
    (are.0, (are.1.0, tt)) are' refl ends' (λ e. absurd (cc)) (λ e. absurd (omega (arith, (back e).1))) in
    absurd (let e = ample.0 in cc)
same_run files image script (b ∷ c ∷ h) (a ∷ []) lost lost' are are' ends ends' same back =
    let ample = same_by files (named_files (Some (Run image script))) (b ∷ c ∷ []) (a ∷ []) None lost'
    (are.0, (are.1.0, tt)) are' refl ends' (λ e. absurd (cc)) (λ e. absurd (omega (arith, (back e).1))) in
    absurd (let e = ample.0 in cc)
same_run files image script (a ∷ b ∷ h) (a' ∷ b' ∷ h') lost lost' are are' ends ends' same back =
    let e : a' ≡ a = same_Some a' a (sym (are'.0.is_told files refl) ∙ are.0.is_told files refl) in
    let e' : b' ≡ b = same_Some b' b (sym (are'.1.0.is_told files refl) ∙ are.1.0.is_told files refl) in
    let more : session_files (session_of a' b') ≡ session_files (session_of a b) =
    λ i. session_files (session_of (e i) (e' i)) in
    let rest = same_by files (session_files (session_of a b)) h h' lost lost' are.1.1
    (subst (λ (needs : List Needed). AreHeld (Some files) needs h') more are'.1.1) ends
    (subst (λ (needs : List Needed). Ended files (first_lacking needs h') lost') more ends')
    (shorter h h' b b' lost lost' (shorter (b ∷ h) (b' ∷ h') a a' lost lost' same))
    (shorter h' h b' b lost' lost (shorter (b' ∷ h') (b ∷ h) a' a lost' lost back)) in
    ((λ i. sym e i ∷ sym e' i ∷ rest.0 i), rest.1)

same_call : (files : List ℕ → Option (List ℕ))
    (asked : Option Asked) (held held' : List (List ℕ)) (lost lost' : Option FileFault)
    → AreHeld (Some files) (needed asked held) held → AreHeld (Some files) (needed asked held') held'
    → Ended files (first_lacking (needed asked held) held) lost
    → Ended files (first_lacking (needed asked held') held') lost'
    → FailsAs held lost held' lost' → FailsAs held' lost' held lost → (held ≡ held') × (lost ≡ lost')
same_call files None held held' lost lost' = same_by files [] held held' lost lost'
same_call files (Some (Diff pre post)) held held' lost lost' =
    same_by files (named_files (Some (Diff pre post))) held held' lost lost'
same_call files (Some (Code image name)) held held' lost lost' =
    same_by files (named_files (Some (Code image name))) held held' lost lost'
same_call files (Some (Match image pre)) held held' lost lost' =
    same_by files (named_files (Some (Match image pre))) held held' lost lost'
same_call files (Some (Run image script)) held held' lost lost' = same_run files image script held held' lost lost'
same_call files (Some (Gen number)) held held' lost lost' = same_by files [] held held' lost lost'
same_call files (Some (Link objects)) held held' lost lost' =
    same_by files (needed (Some (Link objects)) []) held held' lost lost'

-- loads that ended, but not because memory ran out
ended : (files : List ℕ → Option (List ℕ)) (first : Option Needed) (lost : Option FileFault) (before now : Counts)
    → EndsLoads (Some files) first lost before now
    → (lost ≡ None → first ≡ None) → Ended files first lost
unfolding Ended
ended files None None before now ends whole = refl
ended files None (Some fault) before now ends whole = absurd ends
ended files (Some file) None before now ends whole = absurd (let e = whole refl in cc)
ended files (Some file) (Some fault) before now ends whole = ends.is_told files refl

-- no file is needed but those that the words name
pub no_object_lacks : (objects held : List (List ℕ)) → first_lacking (named_files (Some (Link objects))) held ≡ None
    → first_lacking (needed (Some (Link objects)) held) held ≡ None
no_object_lacks objects held none =
    ap (λ (files : List Needed). first_lacking files held) (append-nil (named_files (Some (Link objects)))) ∙ none

-- an answer with another status than 6 is one by loads of which none is lacking, or one is for a fault
whole_lines : (file : Option Needed) (lost : Option FileFault) (refused : Bool)
    → (session_status file lost refused ≡ 6 → ⊥) → lost ≡ None → file ≡ None
whole_lines None lost refused ample is = refl
whole_lines (Some file) lost refused ample is =
    absurd (ample (ap (λ (x : Option FileFault). session_status (Some file) x refused) is))

whole_session : (read : Result (Watched × List Command) Refusal) (held : List (List ℕ)) (lost : Option FileFault)
    → ((session_answer read held lost).status ≡ 6 → ⊥) → lost ≡ None
    → first_lacking (session_files read) held ≡ None
whole_session (Err refusal) held lost ample is = refl
whole_session (Ok session) held lost ample is =
    whole_lines (lacking session.1 held) lost (session_played session.0 session.1 held).refused ample is

whole_by : (first : Option Needed) (command : Asked) (held : List (List ℕ)) (lost : Option FileFault) (answer : Answer)
    → first_lacking (named_files (Some command)) held ≡ first → IsAnswerBy first command held lost answer
    → (answer.status ≡ 6 → ⊥) → lost ≡ None → first_lacking (needed (Some command) held) held ≡ None
whole_by (Some file) command held None answer lacks one ample is = absurd (ample (ap (λ (a : Answer). a.status) one))
whole_by (Some file) command held (Some fault) answer lacks one ample is = absurd (cc)
whole_by None (Diff pre post) (old ∷ new ∷ held) lost answer lacks one ample is = refl
whole_by None (Code image name) (bytes ∷ held) lost answer lacks one ample is = refl
whole_by None (Match image pre) (bytes ∷ object ∷ held) lost answer lacks one ample is = refl
whole_by None (Run image script) (bytes ∷ lines ∷ held) lost answer lacks one ample is =
    whole_session (session_of bytes lines) held lost (λ e. ample (ap (λ (a : Answer). a.status) one ∙ e)) is
whole_by None (Gen number) held lost answer lacks one ample is = refl
whole_by None (Link objects) held lost answer lacks one ample is = no_object_lacks objects held lacks
whole_by None (Diff pre post) [] lost answer lacks one ample is = absurd one
whole_by None (Diff pre post) (old ∷ []) lost answer lacks one ample is = absurd one
whole_by None (Code image name) [] lost answer lacks one ample is = absurd one
whole_by None (Match image pre) [] lost answer lacks one ample is = absurd one
whole_by None (Match image pre) (bytes ∷ []) lost answer lacks one ample is = absurd one
whole_by None (Run image script) [] lost answer lacks one ample is = absurd one
whole_by None (Run image script) (bytes ∷ []) lost answer lacks one ample is = absurd one

whole_call : (asked : Option Asked) (held : List (List ℕ)) (lost : Option FileFault) (answer : Answer)
    → IsAnswer asked held lost answer → (answer.status ≡ 6 → ⊥)
    → lost ≡ None → first_lacking (needed asked held) held ≡ None
whole_call None held lost answer one ample is = refl
whole_call (Some command) held lost answer one ample is =
    whole_by (first_lacking (named_files (Some command)) held) command held lost answer refl one ample is

pub same_loads : (files : List ℕ → Option (List ℕ)) (asked : Option Asked) (held held' : List (List ℕ))
    (lost lost' : Option FileFault) (before now before' now' : Counts) (one other : Answer)
    → CameTo (Some files) (needed asked held) held lost before now
    → CameTo (Some files) (needed asked held') held' lost' before' now'
    → failed_load held lost ≡ failed_load held' lost' → IsAnswer asked held lost one
    → IsAnswer asked held' lost' other → (one.status ≡ 6 → ⊥) → (other.status ≡ 6 → ⊥)
    → (held ≡ held') × (lost ≡ lost')
same_loads files asked held held' lost lost' before now before' now' one other loads loads' failed is is' ample ample' =
    same_call files asked held held' lost lost' loads.are_held loads'.are_held
    (ended files _ lost before now loads.ends (whole_call asked held lost one is ample))
    (ended files _ lost' before' now' loads'.ends (whole_call asked held' lost' other is' ample'))
    (fails_as held held' lost lost' failed) (fails_as held' held lost' lost (sym failed))

-- loads that were all made have ended
all_made : (files : List ℕ → Option (List ℕ)) (first : Option Needed) → first ≡ None → Ended files first None
unfolding Ended
all_made files None is = refl
all_made files (Some file) is = absurd (cc)

-- the loads for an answer of which the outside failed none hold all files, where all are given
pub all_are_loaded : (files : List ℕ → Option (List ℕ)) (asked : Option Asked) (held all : List (List ℕ))
    (lost : Option FileFault) (before now : Counts) (answer : Answer)
    → CameTo (Some files) (needed asked held) held lost before now
    → AreHeld (Some files) (needed asked all) all → first_lacking (needed asked all) all ≡ None
    → (lost ≡ Some Failed → ⊥) → IsAnswer asked held lost answer → (answer.status ≡ 6 → ⊥)
    → (held ≡ all) × (lost ≡ None)
unfolding FailsAs
all_are_loaded files asked held all lost before now answer loads given whole sound one ample =
    same_call files asked held all lost None loads.are_held given
    (ended files _ lost before now loads.ends (whole_call asked held lost answer one ample))
    (all_made files _ whole) (λ e. absurd (sound e)) (λ e. absurd (cc))
