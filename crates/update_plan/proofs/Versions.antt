-- Each function that a plan replaces gets a version of its own, and what ran before it is retired.
use Rattle.std.proofs.Common.{◌≡◌, ℕ, true, List, Some, sym, ap, subst, ◌∙◌}
use Rattle.std.specs.Prelude.{Ok}
use Rattle.std.specs.List.{Any, filter, filter_map}
use Rattle.ks_base.specs.declared.places.Range.{Range}
use Rattle.ks_base.specs.declared.reports.Replaced.{Replaced}
use Rattle.image_memory.specs.declared.types.Fence.{Fence}
use Rattle.image_memory.specs.declared.types.Piece.{Piece}
use Rattle.image_memory.specs.Contents.{IsValid}
use Rattle.symbol_table.specs.Bodies.{newest}
use Rattle.extract_post.specs.declared.types.Extract.{Extract}
use Rattle.symbol_solve.specs.Candidates.{Running}
use Rattle.update_retired.specs.declared.types.OldFunction.{OldFunction}
use Rattle.update_retired.specs.Retired.{is_retired}
use Rattle.update_pieces.specs.Parts.{AtPlace, NewPart, at_places}
use Rattle.link_post.specs.Sections.{kind_of_class}
use Rattle.update_pieces.specs.Pieces.{new_piece, new_pieces}
use Rattle.update_pieces.specs.Reports.{replaced_of}
use Rattle.update_plan.specs.declared.types.Plan.{Plan}
use Rattle.update_plan.specs.Olds.{olds_of}
use Rattle.update_plan.specs.Placing.{parts_of}
use Rattle.update_plan.specs.Plan.{fence_of, fences_of, plan_of, planned}
use Rattle.update_plan.specs.Sound.{AllReplaceNewest, BeginsAt, IsVersion, ReplacesNewest}
use Rattle.update_plan.proofs.NewCodes.{changed_part_code, new_named}
use Rattle.update_plan.proofs.SoundFences.{low_is_base, retired_full}
use Rattle.update_plan.proofs.SoundFile.{distinct_in, is_file}
use Rattle.update_plan.proofs.SoundJumps.{IsReplacing, is_replacing, replaced_is, replacing_goes}
use Rattle.update_plan.proofs.SoundLists.{Has, all_of, has_filter, has_map, kept_has, some_of}
use Rattle.update_plan.proofs.SoundOlds.{IsOldOf, is_old}
use Rattle.update_plan.proofs.SoundParts.{place_role}
use Rattle.update_plan.proofs.SoundPlan.{BodiesAreTold}
use Rattle.update_plan.proofs.SoundSteps.{IsPlanned, is_planned, lists_are}

-- a function that goes is retired from its base on, which is the newest of its home
old_retired : (bodies : List (ℕ × ℕ)) (extract : Extract) (olds : List OldFunction) (old : OldFunction) → Has olds old →
    IsOldOf bodies extract old → is_retired old.fate ≡ true →
    Any (λ (fence : Fence). BeginsAt (newest bodies old.home) fence.range) (fences_of olds)
old_retired bodies extract olds old among it goes =
    some_of (λ (fence : Fence). BeginsAt (newest bodies old.home) fence.range) (fences_of olds) (fence_of old)
    (has_map fence_of (filter (λ (o : OldFunction). is_retired o.fate) olds) old
    (has_filter (λ (o : OldFunction). is_retired o.fate) olds old among goes))
    (record { low = low_is_base old ∙ it.base; full = retired_full old it.some })

module _ (running : Running) (retired gaps : List Range) (pre_file post_file : List ℕ) (plan : Plan)
    (it : IsPlanned running retired gaps pre_file post_file plan) where
  abbrev olds : List OldFunction
  olds = olds_of it.extract it.found it.pre

  abbrev parts : List NewPart
  parts = parts_of it.extract it.post

  abbrev at_all : List AtPlace
  at_all = at_places parts it.placement

  abbrev pieces : List Piece
  pieces = new_pieces it.post parts it.placement it.values

  -- a section that is changed has its piece of code
  new_version : (x : AtPlace) (one : Replaced) → IsReplacing olds x one → Has at_all x →
      Any (IsVersion one.base) pieces
  new_version x one r has =
      let named = new_named post_file it.post (is_file post_file it.post it.post_is) it.extract it.placement x has in
      let role = place_role it.extract it.post it.placement x has ∙ ap (λ y. Some y) r.changed in
      let code = changed_part_code it.pre it.post it.extract x (lists_are it.pre it.post it.extract it.extract_is) named
      role in
      some_of (IsVersion one.base) pieces (new_piece it.post it.placement it.values x)
      (has_map (new_piece it.post it.placement it.values) at_all x has)
      (record { kind = ap kind_of_class code; begins = sym r.base })

  replaces_newest : BodiesAreTold → IsValid running.contents → (one : Replaced) →
      Has (filter_map (replaced_of olds) at_all) one →
      ReplacesNewest running.bodies (plan_of running it.pre it.post it.values olds parts it.placement) one
  replaces_newest told valid one has =
      let (x, in_places, made) = kept_has (replaced_of olds) at_all one has in
      let r = is_replacing olds x one made in
      let old_is = is_old running it.extract it.found it.pre (told running it.pre it.found valid
      (distinct_in pre_file it.pre (is_file pre_file it.pre it.pre_is)) it.found_is) r.old r.among in
      let goes = replaced_is r.old.fate (replacing_goes running.bodies it.extract olds x one r old_is
      (place_role it.extract it.post it.placement x in_places)) in
      record {
        version = new_version x one r in_places;
        over =
            subst
            (λ (home : ℕ). Any (λ (fence : Fence). BeginsAt (newest running.bodies home) fence.range) (fences_of olds))
            (sym r.home) (old_retired running.bodies it.extract olds r.old r.among old_is goes);
      }

pub all_replace_newest : BodiesAreTold → (running : Running) (retired gaps : List Range) (pre_file post_file : List ℕ)
    (plan : Plan) → IsValid running.contents → planned running retired gaps pre_file post_file ≡ Ok plan →
    AllReplaceNewest running.bodies plan
all_replace_newest told running retired gaps pre_file post_file plan valid is =
    let it = is_planned running retired gaps pre_file post_file plan is in
    let all = olds_of it.extract it.found it.pre in
    let placing = parts_of it.extract it.post in
    let here : AllReplaceNewest running.bodies (plan_of running it.pre it.post it.values all placing it.placement) =
    all_of (ReplacesNewest running.bodies (plan_of running it.pre it.post it.values all placing it.placement))
    (filter_map (replaced_of all) (at_places placing it.placement))
    (replaces_newest running retired gaps pre_file post_file plan it told valid) in
    subst (AllReplaceNewest running.bodies) it.plan_is here
