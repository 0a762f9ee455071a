-- What the plan comes to, step by step: each step goes on with what it answers, or ends with its refusal.
use Rattle.std.proofs.Common.{◌≡◌, ℕ, List, refl, sym, ap, ◌∙◌}
use Rattle.std.specs.Prelude.{Result, Ok, Err}
use Rattle.ks_base.specs.declared.places.Range.{Range}
use Rattle.ks_base.specs.declared.refusals.Refusal.{Refusal}
use Rattle.image_file.specs.Fields.{◌>>=◌}
use Rattle.i386_reloc.specs.declared.types.NormalSection.{NormalSection}
use Rattle.i386_reloc.specs.Sections.{sections_of}
use Rattle.extract_post.specs.declared.types.Extract.{Extract}
use Rattle.extract_post.specs.Extracted.{extracted}
use Rattle.symbol_solve.specs.Candidates.{Running}
use Rattle.symbol_solve.specs.Solve.{solved}
use Rattle.link_post.specs.Values.{ValueList, resolved}
use Rattle.update_retired.specs.declared.types.OldFunction.{OldFunction}
use Rattle.update_retired.specs.Overlaps.{code_refusal}
use Rattle.update_pieces.specs.Parts.{NewPart}
use Rattle.update_plan.specs.declared.types.Plan.{Plan}
use Rattle.update_plan.specs.Olds.{olds_of}
use Rattle.update_plan.specs.Placing.{parts_of, names_of}
use Rattle.update_plan.specs.Plan.{planned, unless}
use Rattle.update_plan.specs.inside.Rests.{planned_at, planned_between, planned_with}

pub goes_on : {A B : Type 0} (r : Result A Refusal) (x : A) (f : A → Result B Refusal) → r ≡ Ok x → (r >>= f) ≡ f x
goes_on r x f is = ap (λ o. o >>= f) is

pub ends : {A B : Type 0} (r : Result A Refusal) (refusal : Refusal) (f : A → Result B Refusal) → r ≡ Err refusal
    → (r >>= f) ≡ Err refusal
ends r refusal f is = ap (λ o. o >>= f) is

-- ---- after the difference and the old object's values
module _ (running : Running) (retired gaps : List Range) (pre post : List NormalSection) (extract : Extract)
    (found : ValueList) (parts : List NewPart) (are_parts : parts ≡ parts_of extract post) where
  abbrev given_values : List NewPart → Result ValueList Refusal
  given_values parts = resolved pre post running.symbols (names_of parts) found

  abbrev given_olds : Result (List OldFunction) Refusal
  given_olds =
      unless (code_refusal running.contents running.symbols retired (olds_of extract found pre))
      (olds_of extract found pre)

  abbrev from_olds : List NewPart → ValueList → Result Plan Refusal
  from_olds parts values = given_olds >>= (λ olds. planned_at running gaps pre post parts values olds)

  abbrev from_values : List NewPart → Result Plan Refusal
  from_values parts = given_values parts >>= (λ values. from_olds parts values)

  with_parts : planned_with running retired gaps pre post extract found ≡ from_values parts
  unfolding planned_with
  with_parts = sym (ap from_values are_parts)

  pub values_end : (refusal : Refusal) → given_values parts ≡ Err refusal
      → planned_with running retired gaps pre post extract found ≡ Err refusal
  values_end refusal p = with_parts ∙ ends (given_values parts) refusal (λ values. from_olds parts values) p

  module _ (values : ValueList) (are_values : given_values parts ≡ Ok values) where
    with_values : planned_with running retired gaps pre post extract found ≡ from_olds parts values
    with_values = with_parts ∙ goes_on (given_values parts) values (λ values. from_olds parts values) are_values

    pub olds_end : (refusal : Refusal) → given_olds ≡ Err refusal
        → planned_with running retired gaps pre post extract found ≡ Err refusal
    olds_end refusal p =
        with_values ∙ ends given_olds refusal (λ olds. planned_at running gaps pre post parts values olds) p

    pub olds_go_on : (olds : List OldFunction) → given_olds ≡ Ok olds
        → planned_with running retired gaps pre post extract found ≡ planned_at running gaps pre post parts values olds
    olds_go_on olds p =
        with_values ∙ goes_on given_olds olds (λ olds. planned_at running gaps pre post parts values olds) p

-- ---- after the objects
module _ (running : Running) (retired gaps : List Range) (pre post : List NormalSection) where
  abbrev solution : Result ValueList Refusal
  solution = solved pre running.bodies running.contents running.symbols

  abbrev from_extract : Extract → Result Plan Refusal
  from_extract extract = solution >>= (λ found. planned_with running retired gaps pre post extract found)

  begins_between : planned_between running retired gaps pre post ≡ (extracted pre post >>= from_extract)
  unfolding planned_between
  begins_between = refl

  pub extract_ends : (refusal : Refusal) → extracted pre post ≡ Err refusal
      → planned_between running retired gaps pre post ≡ Err refusal
  extract_ends refusal p = begins_between ∙ ends (extracted pre post) refusal from_extract p

  module _ (extract : Extract) (is_extract : extracted pre post ≡ Ok extract) where
    with_extract : planned_between running retired gaps pre post ≡ from_extract extract
    with_extract = begins_between ∙ goes_on (extracted pre post) extract from_extract is_extract

    pub solution_ends : (refusal : Refusal) → solution ≡ Err refusal
        → planned_between running retired gaps pre post ≡ Err refusal
    solution_ends refusal p =
        with_extract ∙ ends solution refusal (λ found. planned_with running retired gaps pre post extract found) p

    pub solution_goes_on : (found : ValueList) → solution ≡ Ok found
        → planned_between running retired gaps pre post ≡ planned_with running retired gaps pre post extract found
    solution_goes_on found p =
        with_extract ∙ goes_on solution found (λ found. planned_with running retired gaps pre post extract found) p

-- ---- the whole
module _ (running : Running) (retired gaps : List Range) (pre_file post_file : List ℕ) where
  abbrev from_pre : List NormalSection → Result Plan Refusal
  from_pre pre = sections_of post_file >>= (λ post. planned_between running retired gaps pre post)

  begins : planned running retired gaps pre_file post_file ≡ (sections_of pre_file >>= from_pre)
  unfolding planned planned_at planned_between planned_with
  begins = refl

  pub pre_ends : (refusal : Refusal) → sections_of pre_file ≡ Err refusal
      → planned running retired gaps pre_file post_file ≡ Err refusal
  pre_ends refusal p = begins ∙ ends (sections_of pre_file) refusal from_pre p

  module _ (pre : List NormalSection) (is_pre : sections_of pre_file ≡ Ok pre) where
    with_pre : planned running retired gaps pre_file post_file ≡ from_pre pre
    with_pre = begins ∙ goes_on (sections_of pre_file) pre from_pre is_pre

    pub post_ends : (refusal : Refusal) → sections_of post_file ≡ Err refusal
        → planned running retired gaps pre_file post_file ≡ Err refusal
    post_ends refusal p =
        with_pre ∙ ends (sections_of post_file) refusal (λ post. planned_between running retired gaps pre post) p

    pub post_goes_on : (post : List NormalSection) → sections_of post_file ≡ Ok post
        → planned running retired gaps pre_file post_file ≡ planned_between running retired gaps pre post
    post_goes_on post p =
        with_pre ∙ goes_on (sections_of post_file) post (λ post. planned_between running retired gaps pre post) p
