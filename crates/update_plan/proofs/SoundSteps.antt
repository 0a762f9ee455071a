-- What was found on the way to a plan, one step after another.
use Rattle.std.proofs.Common.{◌≡◌, ℕ, Bool, true, false, List, map, Option, Some, None, refl, ap, ◌∙◌}
use Rattle.std.specs.Prelude.{Result, Ok, Err, if◌then◌else◌, find}
use Rattle.std.specs.List.{list_any}
use Rattle.ks_base.specs.declared.places.Range.{Range}
use Rattle.ks_base.specs.declared.refusals.Refusal.{Refusal}
use Rattle.ks_base.specs.declared.refusals.Refusal.TheVariants.{NoChange}
use Rattle.image_file.specs.Fields.{◌>>=◌}
use Rattle.i386_reloc.specs.declared.types.Ref.{Ref}
use Rattle.i386_reloc.specs.declared.types.NormalSection.{NormalSection}
use Rattle.i386_reloc.specs.Sections.{sections_of}
use Rattle.extract_post.specs.declared.types.Extract.{Extract}
use Rattle.extract_post.specs.Extract.{places}
use Rattle.extract_post.specs.Extracted.{data_differs, extracted, extracted_by, extracted_with, is_broken}
use Rattle.extract_post.specs.Extracted.{is_first_member, lists_of, names_of as all_names}
use Rattle.symbol_solve.specs.Candidates.{Running}
use Rattle.symbol_solve.specs.Solve.{solved}
use Rattle.link_post.specs.declared.types.Placed.{Placed}
use Rattle.link_post.specs.Values.{ValueList, resolved}
use Rattle.link_post.specs.Places.{placed}
use Rattle.image_file.specs.laws.FieldLaws.{bind_ok}
use Rattle.update_retired.specs.declared.types.OldFunction.{OldFunction}
use Rattle.update_retired.specs.Overlaps.{code_refusal}
use Rattle.update_pieces.specs.Parts.{size_of}
use Rattle.update_plan.specs.declared.types.Plan.{Plan}
use Rattle.update_plan.specs.Olds.{olds_of}
use Rattle.update_plan.specs.Placing.{parts_of, names_of}
use Rattle.update_plan.specs.Plan.{plan_of, planned, unless}

unless_ok : {A : Type 0} (refusal : Option Refusal) (x y : A) → unless refusal x ≡ Ok y → (refusal ≡ None) × (x ≡ y)
unless_ok None x y is = (refl, cc)
unless_ok (Some refusal) x y is = absurd cc

-- the steps of a plan, the last first
module _ (running : Running) (retired gaps : List Range) (post_file : List ℕ) where
  abbrev from_olds : (pre post : List NormalSection) → Extract → ValueList → List OldFunction → Result Plan Refusal
  from_olds pre post extract values olds =
      placed (map size_of (parts_of extract post)) gaps
      >>= (λ placement. Ok (plan_of running pre post values olds (parts_of extract post) placement))

  abbrev from_values : List NormalSection → List NormalSection → Extract → ValueList → ValueList → Result Plan Refusal
  from_values pre post extract found values =
      unless (code_refusal running.contents running.symbols retired (olds_of extract found pre))
      (olds_of extract found pre)
      >>= (λ olds. from_olds pre post extract values olds)

  abbrev from_found : List NormalSection → List NormalSection → Extract → ValueList → Result Plan Refusal
  from_found pre post extract found =
      resolved pre post running.symbols (names_of (parts_of extract post)) found
      >>= (λ values. from_values pre post extract found values)

  abbrev from_extract : List NormalSection → List NormalSection → Extract → Result Plan Refusal
  from_extract pre post extract =
      solved pre running.bodies running.contents running.symbols >>= (λ found. from_found pre post extract found)

  abbrev from_post : List NormalSection → List NormalSection → Result Plan Refusal
  from_post pre post = extracted pre post >>= (λ extract. from_extract pre post extract)

  abbrev from_pre : List NormalSection → Result Plan Refusal
  from_pre pre = sections_of post_file >>= (λ post. from_post pre post)

pub record IsPlanned (running : Running) (retired gaps : List Range) (pre_file post_file : List ℕ) (plan : Plan)
    : Type 0 where
  pub pre : List NormalSection
  pub post : List NormalSection
  pub extract : Extract
  pub found : ValueList
  pub values : ValueList
  pub placement : List Placed
  pub pre_is : sections_of pre_file ≡ Ok pre
  pub post_is : sections_of post_file ≡ Ok post
  pub extract_is : extracted pre post ≡ Ok extract
  pub found_is : solved pre running.bodies running.contents running.symbols ≡ Ok found
  pub values_is : resolved pre post running.symbols (names_of (parts_of extract post)) found ≡ Ok values
  pub clear : code_refusal running.contents running.symbols retired (olds_of extract found pre) ≡ None
  pub placement_is : placed (map size_of (parts_of extract post)) gaps ≡ Ok placement
  pub plan_is : plan_of running pre post values (olds_of extract found pre) (parts_of extract post) placement ≡ plan

plan_from : (running : Running) (pre post : List NormalSection) (extract : Extract) (values : ValueList)
    (olds others : List OldFunction) (placement : List Placed) (plan : Plan) → olds ≡ others →
    unless None (plan_of running pre post values others (parts_of extract post) placement) ≡ Ok plan →
    plan_of running pre post values olds (parts_of extract post) placement ≡ plan
plan_from running pre post extract values olds others placement plan same is =
    ap (λ (os : List OldFunction). plan_of running pre post values os (parts_of extract post) placement) same
    ∙ (unless_ok None (plan_of running pre post values others (parts_of extract post) placement) plan is).1

pub is_planned : (running : Running) (retired gaps : List Range) (pre_file post_file : List ℕ) (plan : Plan) →
    planned running retired gaps pre_file post_file ≡ Ok plan →
    IsPlanned running retired gaps pre_file post_file plan
unfolding planned
is_planned running retired gaps pre_file post_file plan is =
    let (pre, pre_is, at_post) = bind_ok (sections_of pre_file) (from_pre running retired gaps post_file) plan is in
    let (post, post_is, at_extract) = bind_ok (sections_of post_file) (from_post running retired gaps post_file pre)
    plan at_post in
    let (extract, extract_is, at_found) = bind_ok (extracted pre post)
    (from_extract running retired gaps post_file pre post) plan at_extract in
    let (found, found_is, at_values) = bind_ok (solved pre running.bodies running.contents running.symbols)
    (from_found running retired gaps post_file pre post extract) plan at_found in
    let (values, values_is, at_olds) = bind_ok
    (resolved pre post running.symbols (names_of (parts_of extract post)) found)
    (from_values running retired gaps post_file pre post extract found) plan at_values in
    let (olds, olds_is, at_places) = bind_ok
    (unless (code_refusal running.contents running.symbols retired (olds_of extract found pre))
    (olds_of extract found pre))
    (from_olds running retired gaps post_file pre post extract values) plan at_olds in
    let clear = unless_ok (code_refusal running.contents running.symbols retired (olds_of extract found pre))
    (olds_of extract found pre) olds olds_is in
    let (placement, placement_is, last) = bind_ok (placed (map size_of (parts_of extract post)) gaps)
    (λ placement. Ok (plan_of running pre post values olds (parts_of extract post) placement)) plan at_places in
    record {
      pre = pre;
      post = post;
      extract = extract;
      found = found;
      values = values;
      placement = placement;
      pre_is = pre_is;
      post_is = post_is;
      extract_is = extract_is;
      found_is = found_is;
      values_is = values_is;
      clear = clear.0;
      placement_is = placement_is;
      plan_is = plan_from running pre post extract values (olds_of extract found pre) olds placement plan clear.1 last;
    }

-- ---- the lists of an extract
listed : (lists extract : Extract) (b : Bool) → (if b then Ok lists else Err NoChange) ≡ Ok extract → lists ≡ extract
listed lists extract true is = cc
listed lists extract false is = absurd cc

listed_with : (pre post : List NormalSection) (extract : Extract) (o : Option (List ℕ × Ref)) →
    extracted_with pre post o ≡ Ok extract → lists_of pre post ≡ extract
listed_with pre post extract (Some x) is = absurd cc
listed_with pre post extract None is =
    listed (lists_of pre post) extract (list_any (is_first_member pre post) (all_names post)) is

listed_by : (pre post : List NormalSection) (extract : Extract) (o : Option NormalSection) →
    extracted_by pre post o ≡ Ok extract → lists_of pre post ≡ extract
listed_by pre post extract (Some section) is = absurd cc
listed_by pre post extract None is = listed_with pre post extract (find (is_broken pre post) (places post)) is

pub lists_are : (pre post : List NormalSection) (extract : Extract) → extracted pre post ≡ Ok extract →
    lists_of pre post ≡ extract
unfolding extracted
lists_are pre post extract is =
    listed_by pre post extract (find (λ section. data_differs pre post section.name) post) is
