-- The first fault of an object's code sections, from the first of each kind among them.
use Rattle.std.proofs.Common.{◌≡◌, List, Option, Some, None, sym, ap, subst, ◌∙◌}
use Rattle.std.specs.Option.{option_or}
use Rattle.std.specs.List.{flat_map, AllZip}
use Rattle.ks_base.specs.declared.refusals.Refusal.{Refusal}
use Rattle.i386_reloc.specs.declared.types.NormalSection.{NormalSection}
use Rattle.run_pre_match.specs.Matched.{PreSection}
use Rattle.match_candidates.specs.declared.trials.Tried.{Tried}
use Rattle.match_candidates.specs.Candidates.{Running, code_sections, candidates, candidates_of}
use Rattle.match_candidates.specs.OwnFaults.{first_undecoded, first_missing}
use Rattle.match_candidates.specs.OwnFaults.{first_mismatch, own_fault, IsTried, AreTried}
use Rattle.match_candidates.specs.inside.Trying.{missing_among, mismatch_among, tried_from}
use Rattle.match_candidates.proofs.TriedLaws.{are_tried}

pub fault_undecoded : (running : Running) (object : List NormalSection) (refusal : Refusal)
    → first_undecoded object ≡ Some refusal → own_fault running object ≡ Some refusal
unfolding own_fault
fault_undecoded running object refusal is =
    ap (λ o. option_or o (option_or (first_missing running object) (first_mismatch running object))) is

pub fault_missing : (running : Running) (object : List NormalSection) (codes : List PreSection) (refusal : Refusal)
    → codes ≡ code_sections object → first_undecoded object ≡ None
    → missing_among running codes ≡ Some refusal → own_fault running object ≡ Some refusal
unfolding own_fault
fault_missing running object codes refusal all none is =
    ap (λ o. option_or o (option_or (first_missing running object) (first_mismatch running object))) none
    ∙ ap (λ o. option_or o (first_mismatch running object)) (ap (λ l. missing_among running l) (sym all) ∙ is)

after_both : (running : Running) (object : List NormalSection) (codes : List PreSection)
    → codes ≡ code_sections object → first_undecoded object ≡ None → missing_among running codes ≡ None
    → own_fault running object ≡ mismatch_among running codes
unfolding own_fault
after_both running object codes all none nor =
    ap (λ o. option_or o (option_or (first_missing running object) (first_mismatch running object))) none
    ∙ ap (λ o. option_or o (first_mismatch running object)) (ap (λ l. missing_among running l) (sym all) ∙ nor)
    ∙ ap (λ l. mismatch_among running l) (sym all)

pub fault_mismatch : (running : Running) (object : List NormalSection) (codes : List PreSection)
    (fault : Option Refusal) → codes ≡ code_sections object → first_undecoded object ≡ None
    → missing_among running codes ≡ None → mismatch_among running codes ≡ fault → own_fault running object ≡ fault
fault_mismatch running object codes fault all none nor is = after_both running object codes all none nor ∙ is

pub are_all_tried : (running : Running) (object : List NormalSection) (codes : List PreSection)
    (tried : List Tried) → codes ≡ code_sections object → tried ≡ tried_from running 0 codes
    → AreTried running object tried
unfolding candidates
are_all_tried running object codes tried all is =
    subst (λ (l : List PreSection). AllZip (IsTried l) (flat_map (candidates_of running) l) tried) all
    (subst (λ (ts : List Tried). AllZip (IsTried codes) (flat_map (candidates_of running) codes) ts) (sym is)
    (are_tried running codes))
