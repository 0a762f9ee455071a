-- The code sections of an object, section by section.
use Rattle.std.proofs.Common.{◌≡◌, ℕ, suc, ◌+◌, ◌<◌, Bool, true, false, List, [], ◌∷◌, ◌++◌, length}
use Rattle.std.proofs.Common.{get_or, drop, Some, None, refl, sym, ap, ◌∙◌, append_assoc, add-one}
use Rattle.std.specs.Prelude.{if◌then◌else◌}
use Rattle.std.proofs.Math.Seq.{drop-length}
use Rattle.std.proofs.lemmas.List.{append-nil}
use Rattle.ks_base.specs.declared.refusals.Refusal.{Refusal}
use Rattle.i386_reloc.specs.declared.types.NormalSection.{NormalSection}
use Rattle.i386_reloc.specs.Classes.{is_code_class}
use Rattle.run_pre_match.specs.Matched.{PreSection}
use Rattle.propagation.specs.Conflicts.{first_some}
use Rattle.match_candidates.specs.Candidates.{code_from, code_sections}
use Rattle.match_candidates.specs.OwnFaults.{undecoded_in, first_undecoded}
use Rattle.match_candidates.specs.inside.Trying.{undecoded_from}
use Rattle.match_candidates.proofs.FirstLaws.{first_here, first_later, first_nowhere, drop_next}

abbrev pub section_at : List NormalSection → ℕ → NormalSection → PreSection
section_at object place section = record { object = object; place = place; section = section }

-- the code sections from a place on, by whether the section there is one
code_by : List NormalSection → ℕ → NormalSection → List NormalSection → Bool → List PreSection
code_by object place s rest is_code =
    if is_code then section_at object place s ∷ code_from object (suc place) rest
    else code_from object (suc place) rest

pub passes : (object : List NormalSection) (place : ℕ) (s : NormalSection) (rest : List NormalSection)
    → is_code_class s.class ≡ false → code_from object place (s ∷ rest) ≡ code_from object (suc place) rest
unfolding code_from code_by
passes object place s rest other = ap (code_by object place s rest) other

pub takes : (object : List NormalSection) (place : ℕ) (s : NormalSection) (rest : List NormalSection)
    → is_code_class s.class ≡ true
    → code_from object place (s ∷ rest) ≡ section_at object place s ∷ code_from object (suc place) rest
unfolding code_from code_by
takes object place s rest is = ap (code_by object place s rest) is

pub takes_after : (codes now : List PreSection) (object : List NormalSection) (place : ℕ) (s : NormalSection)
    (rest : List NormalSection) → is_code_class s.class ≡ true
    → now ≡ codes ++ section_at object place s ∷ []
    → codes ++ code_from object place (s ∷ rest) ≡ now ++ code_from object (suc place) rest
takes_after codes now object place s rest is pushed =
    ap (λ l. codes ++ l) (takes object place s rest is)
    ∙ sym (append_assoc codes (section_at object place s ∷ []) (code_from object (suc place) rest))
    ∙ ap (λ l. l ++ code_from object (suc place) rest) (sym pushed)

pub undecoded_later : (object : List NormalSection) (place : ℕ) (s : NormalSection) (rest : List NormalSection)
    → is_code_class s.class ≡ true → undecoded_in (section_at object place s) ≡ None
    → undecoded_from object place (s ∷ rest) ≡ undecoded_from object (suc place) rest
undecoded_later object place s rest is none =
    ap (λ l. first_some undecoded_in l) (takes object place s rest is)
    ∙ first_later undecoded_in (section_at object place s) (code_from object (suc place) rest) none

pub undecoded_here : (object : List NormalSection) (place : ℕ) (s : NormalSection) (rest : List NormalSection)
    (refusal : Refusal) → is_code_class s.class ≡ true → undecoded_in (section_at object place s) ≡ Some refusal
    → undecoded_from object place (s ∷ rest) ≡ Some refusal
undecoded_here object place s rest refusal is here =
    ap (λ l. first_some undecoded_in l) (takes object place s rest is)
    ∙ first_here undecoded_in (section_at object place s) (code_from object (suc place) rest) refusal here

-- The sections before a place are gone through.
pub record Passed (object items : List NormalSection) (codes : List PreSection) (place : ℕ) : Type 0 where
  pub same : items ≡ object
  pub all : code_sections object ≡ codes ++ code_from object place (drop place items)
  pub none : first_undecoded object ≡ undecoded_from object place (drop place items)

-- what a step from a section of these leaves, said of a list that is the object
pub passed_more : (object pre items : List NormalSection) (codes now : List PreSection) (place : ℕ) (s : NormalSection)
    → pre ≡ object → place < length items → s ≡ get_or items place s → Passed object items codes place
    → ((rest : List NormalSection) → codes ++ code_from pre place (s ∷ rest) ≡ now ++ code_from pre (suc place) rest)
    → ((rest : List NormalSection) → undecoded_from pre place (s ∷ rest) ≡ undecoded_from pre (suc place) rest)
    → Passed object items now (place + 1)
passed_more object pre items codes now place s it lt is so_far step none =
    let next = drop_next items place s lt is in
    let rest = drop (place + 1) items in
    let stepped : codes ++ code_from object place (s ∷ rest) ≡ now ++ code_from object (suc place) rest =
    ap (λ o. codes ++ code_from o place (s ∷ rest)) (sym it) ∙ step rest
    ∙ ap (λ o. now ++ code_from o (suc place) rest) it in
    let left : undecoded_from object place (s ∷ rest) ≡ undecoded_from object (suc place) rest =
    ap (λ o. undecoded_from o place (s ∷ rest)) (sym it) ∙ none rest
    ∙ ap (λ o. undecoded_from o (suc place) rest) it in
    record {
      same = so_far.same;
      all = so_far.all ∙ ap (λ l. codes ++ code_from object place l) next ∙ stepped
          ∙ ap (λ n. now ++ code_from object n rest) (sym (add-one place));
      none = so_far.none ∙ ap (λ l. undecoded_from object place l) next ∙ left
          ∙ ap (λ n. undecoded_from object n rest) (sym (add-one place));
    }

pub passed_to : (object pre items : List NormalSection) (codes : List PreSection) (place : ℕ) (s : NormalSection)
    (refusal : Refusal) → pre ≡ object → place < length items → s ≡ get_or items place s
    → Passed object items codes place
    → ((rest : List NormalSection) → undecoded_from pre place (s ∷ rest) ≡ Some refusal)
    → first_undecoded object ≡ Some refusal
passed_to object pre items codes place s refusal it lt is so_far here =
    let rest = drop (place + 1) items in
    so_far.none ∙ ap (λ l. undecoded_from object place l) (drop_next items place s lt is)
    ∙ ap (λ o. undecoded_from o place (s ∷ rest)) (sym it) ∙ here rest

code_of_none : (object : List NormalSection) (place : ℕ) → code_from object place [] ≡ []
unfolding code_from
code_of_none object place = refl

left_none : (items : List NormalSection) (place : ℕ) → place ≡ length items → drop place items ≡ []
left_none items place all = ap (λ n. drop n items) all ∙ drop-length items

pub passed_all : (object items : List NormalSection) (codes : List PreSection) (place : ℕ) → place ≡ length items
    → Passed object items codes place → codes ≡ code_sections object
passed_all object items codes place all so_far =
    sym (so_far.all ∙ ap (λ l. codes ++ code_from object place l) (left_none items place all)
    ∙ ap (λ l. codes ++ l) (code_of_none object place) ∙ append-nil codes)

pub passed_without : (object items : List NormalSection) (codes : List PreSection) (place : ℕ)
    → place ≡ length items → Passed object items codes place → first_undecoded object ≡ None
passed_without object items codes place all so_far =
    so_far.none ∙ ap (λ l. undecoded_from object place l) (left_none items place all)
    ∙ ap (λ l. first_some undecoded_in l) (code_of_none object place) ∙ first_nowhere undecoded_in
