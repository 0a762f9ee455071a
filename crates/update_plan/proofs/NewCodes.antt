-- Each function that a plan replaces has its new code among the plan's pieces.
use Rattle.std.proofs.Common.{◌≡◌, inl, inr, ℕ, true, List, map, Option, Some, None, refl, sym, ap, subst, ◌∙◌}
use Rattle.std.specs.Prelude.{Ok}
use Rattle.std.specs.List.{All, Contains, filter}
use Rattle.std.specs.Cmp.Lexicographic.{bytes_decides}
use Rattle.std.proofs.lemmas.Bool.{and_parts}
use Rattle.std.proofs.lemmas.List.Elements.{All-weaker}
use Rattle.ks_base.specs.declared.places.Range.{Range}
use Rattle.ks_base.specs.declared.reports.Replaced.{Replaced}
use Rattle.image_memory.specs.Ranges.{Ascends}
use Rattle.image_memory.specs.declared.types.Piece.{Piece}
use Rattle.symbol_table.specs.declared.values.Unknown.TheVariants as unknown
use Rattle.symbol_table.specs.declared.values.Solved.{Solved}
use Rattle.symbol_table.specs.declared.values.Solved.TheVariants.{Body, Address}
use Rattle.i386_reloc.specs.declared.types.Class.{Class}
use Rattle.i386_reloc.specs.declared.types.Class.TheVariants.{Zero, Code, Writable, Strings, ReadOnly}
use Rattle.i386_reloc.specs.declared.types.NormalSection.{NormalSection}
use Rattle.i386_reloc.specs.Classes.{is_code_class}
use Rattle.i386_reloc.specs.Normal.{function_name, same_bytes, section_named}
use Rattle.i386_reloc.specs.Reaches.{has_class, is_in}
use Rattle.extract_post.specs.declared.types.Extract.{Extract}
use Rattle.extract_post.specs.declared.role.Role.TheVariants.{Changed}
use Rattle.extract_post.specs.Members.{is_in_both}
use Rattle.extract_post.specs.Extracted.{is_member, lists_of}
use Rattle.extract_post.specs.Roles.{is_among, role_of}
use Rattle.symbol_solve.specs.Candidates.{Running}
use Rattle.link_post.specs.declared.types.Placed.{Placed}
use Rattle.link_post.specs.declared.types.SectionSize.{SectionSize}
use Rattle.link_post.specs.Values.{ValueList, solved_as}
use Rattle.link_post.specs.Places.{name_of as name_of_size, placed}
use Rattle.link_post.specs.Linked.{AreInOrder, AreNamesInOrder, linked}
use Rattle.update_retired.specs.declared.types.OldFunction.{OldFunction}
use Rattle.update_pieces.specs.Parts.{AtPlace, NewPart, at_places, size_of}
use Rattle.link_post.specs.Sections.{kind_of_class}
use Rattle.update_pieces.specs.Pieces.{new_pieces}
use Rattle.update_pieces.specs.Reports.{report_of}
use Rattle.update_pieces.specs.Apart.{AreFound, IsFound}
use Rattle.update_pieces.specs.NewText.{HasNewText}
use Rattle.update_plan.specs.declared.types.Plan.{Plan}
use Rattle.update_plan.specs.Addresses.{AreSteps}
use Rattle.update_plan.specs.NewCode.{HasNewCode, BringsNewCode}
use Rattle.update_plan.specs.Olds.{is_function, old_as, old_in, olds_of}
use Rattle.update_plan.specs.Placing.{parts_of}
use Rattle.update_plan.specs.Plan.{planned}
use Rattle.update_plan.proofs.Orders.{parts_in_order, placed_in_order}
use Rattle.update_plan.proofs.SoundFile.{IsFile, distinct_in, is_file, named_itself}
use Rattle.update_plan.proofs.SoundLists.{Has, each_has, filter_has, flat_has, found_has, has_of}
use Rattle.update_plan.proofs.SoundParts.{at_from, changed_where, part_is, place_role}
use Rattle.update_plan.proofs.SoundPlan.{changed_has}
use Rattle.update_plan.proofs.SoundSteps.{IsPlanned, is_planned, lists_are}

-- what the crates below say of all reports and places
abbrev pub TextsStand : Type 0
TextsStand = (post : List NormalSection) (parts : List NewPart) (placement : List Placed) (values : ValueList)
    (olds : List OldFunction) → All (HasNewText post parts placement values olds)
    (report_of parts placement olds).replaced

abbrev pub PlacesKeepOrder : Type 0
PlacesKeepOrder = (post : List NormalSection) (sizes : List SectionSize) (gaps : List Range) (places : List Placed)
    → Ascends (λ range. range) 0 gaps → placed sizes gaps ≡ Ok places → AreNamesInOrder post (map name_of_size sizes)
    → AreInOrder post places

abbrev pub PlacesAreFound : Type 0
PlacesAreFound = (post : List NormalSection) (parts : List NewPart) (gaps : List Range) (placement : List Placed)
    → Ascends (λ range. range) 0 gaps → placed (map size_of parts) gaps ≡ Ok placement → AreInOrder post placement
    → AreFound placement (at_places parts placement)

-- ---- a section that is changed is code
code_class : (class : Class) → is_code_class class ≡ true → class ≡ Code
code_class Code is = refl
code_class Zero is = absurd cc
code_class Writable is = absurd cc
code_class Strings is = absurd cc
code_class ReadOnly is = absurd cc

changed_code : (pre post : List NormalSection) (extract : Extract) (name : List ℕ) → lists_of pre post ≡ extract
    → is_among extract.changed name ≡ true → is_in is_code_class post name ≡ true
changed_code pre post extract name is among =
    let (section, in_post, named, passes) = changed_has pre post extract name is among in
    let both = and_parts (is_member pre post section.name) (is_in_both is_code_class pre post section.name) passes in
    let code = and_parts (is_in is_code_class pre section.name) (is_in is_code_class post section.name) both.1 in
    ap (is_in is_code_class post) (sym named) ∙ code.1

-- a section at its place is the one of its name in the new object
pub new_named : (post_file : List ℕ) (post : List NormalSection) → IsFile post_file post → (extract : Extract)
    (placement : List Placed) (part : AtPlace) → Has (at_places (parts_of extract post) placement) part
    → section_named post part.section.name ≡ Some part.section
new_named post_file post file extract placement part has =
    let (from, in_parts, same, role) = at_from (parts_of extract post) placement part has in
    let (section, in_post, as_part) = part_is extract post from in_parts in
    subst (λ (s : NormalSection). section_named post s.name ≡ Some s) (sym (same ∙ as_part.is))
    (named_itself post_file post file section in_post)

-- and is code where it is changed
pub changed_part_code : (pre post : List NormalSection) (extract : Extract) (part : AtPlace)
    → lists_of pre post ≡ extract → section_named post part.section.name ≡ Some part.section
    → role_of extract part.section.name ≡ Some Changed → part.section.class ≡ Code
changed_part_code pre post extract part is named role =
    let name = part.section.name in
    let in_code = changed_code pre post extract name is (changed_where extract name role) in
    code_class part.section.class (sym (ap (has_class is_code_class) named) ∙ in_code)

-- ---- an old function by the section that it is
record IsOldAs (section : NormalSection) (told : Option Solved) (old : OldFunction) : Type 0 where
  named : old.section ≡ section.name
  function : old.function ≡ function_name section
  is : told ≡ Some (Body old.home old.base old.length)

old_as_is : (extract : Extract) (section : NormalSection) (told : Option Solved) (old : OldFunction)
    → Has (old_as extract section told) old → IsOldAs section told old
old_as_is extract section (Some (Body home base length)) old (inl here) =
    subst (IsOldAs section (Some (Body home base length))) here (record { named = refl; function = refl; is = refl })
old_as_is extract section (Some (Body home base length)) old (inr none) = absurd none
old_as_is extract section (Some (Address address)) old has = absurd has
old_as_is extract section None old has = absurd has

old_from : (extract : Extract) (found : ValueList) (pre : List NormalSection) (old : OldFunction)
    → Has (olds_of extract found pre) old
    → (section : NormalSection) × Has pre section
    × IsOldAs section (solved_as found (unknown.Code section.name)) old
unfolding olds_of
old_from extract found pre old has =
    let (section, in_code, inner) = flat_has (old_in extract found) (filter is_function pre) old has in (
      section,
      (filter_has is_function pre section in_code).0,
      old_as_is extract section (solved_as found (unknown.Code section.name)) old inner,
    )

module _ (running : Running) (retired gaps : List Range) (pre_file post_file : List ℕ) (plan : Plan)
    (ascend : Ascends (λ range. range) 0 gaps) (it : IsPlanned running retired gaps pre_file post_file plan) where
  abbrev steps : AreSteps running gaps pre_file post_file
  steps = record {
    pre = it.pre;
    post = it.post;
    extract = it.extract;
    found = it.found;
    values = it.values;
    placement = it.placement;
    pre_is = it.pre_is;
    post_is = it.post_is;
    extract_is = it.extract_is;
    found_is = it.found_is;
    values_is = it.values_is;
    placement_is = it.placement_is;
  }

  abbrev parts : List NewPart
  parts = parts_of it.extract it.post

  abbrev olds : List OldFunction
  olds = olds_of it.extract it.found it.pre

  abbrev at_all : List AtPlace
  at_all = at_places parts it.placement

  abbrev pieces : List Piece
  pieces = new_pieces it.post parts it.placement it.values

  pre_is_file : IsFile pre_file it.pre
  pre_is_file = is_file pre_file it.pre it.pre_is

  post_is_file : IsFile post_file it.post
  post_is_file = is_file post_file it.post it.post_is

  -- the name of each section that is placed leads to its own place
  own_places : PlacesKeepOrder → PlacesAreFound → AreFound it.placement at_all
  own_places keep find =
      find it.post parts gaps it.placement ascend it.placement_is
      (placed_in_order keep it.post parts gaps (map size_of parts) (Ok it.placement) refl ascend
      (parts_in_order it.extract it.post (distinct_in post_file it.post post_is_file)) it.placement_is)

  new_code : PlacesKeepOrder → PlacesAreFound → (one : Replaced)
      → HasNewText it.post parts it.placement it.values olds one
      → HasNewCode running gaps pre_file post_file steps pieces one
  new_code keep find one text =
      let name = text.part.section.name in
      let has = has_of at_all text.part text.listed in
      let named = new_named post_file it.post post_is_file it.extract it.placement text.part has in
      let role : role_of it.extract name ≡ Some Changed =
      place_role it.extract it.post it.placement text.part has ∙ ap (λ r. Some r) text.changed in
      let code = changed_part_code it.pre it.post it.extract text.part
      (lists_are it.pre it.post it.extract it.extract_is) named role in
      let first = found_has (λ (old : OldFunction). same_bytes old.section name) olds text.old text.named in
      let (section, in_pre, old) = old_from it.extract it.found it.pre text.old first.0 in
      let same : section.name ≡ name = sym old.named ∙ (bytes_decides text.old.section name).0 first.1 in
      record {
        old = section;
        new = text.part.section;
        old_is = subst (λ (n : List ℕ). section_named it.pre n ≡ Some section) same
            (named_itself pre_file it.pre pre_is_file section in_pre);
        new_is = named;
        function = text.function ∙ old.function;
        ran_at = text.old.base;
        found =
            ap (λ (n : List ℕ). solved_as it.found (unknown.Code n)) (sym same) ∙ old.is
            ∙ ap (λ (home : ℕ). Some (Body home text.old.base text.old.length)) (sym text.home)
            ∙ ap (λ (length : ℕ). Some (Body one.home text.old.base length)) (sym text.length);
        changed = role;
        code = code;
        placed =
            (each_has (IsFound it.placement) at_all text.part (own_places keep find) has).base
            ∙ ap (λ (base : ℕ). Some base) (sym text.base);
        stands =
            subst (λ (class : Class).
            let piece : Piece = record {
              kind = kind_of_class class;
              base = one.base;
              bytes = linked it.post it.placement it.values name;
            } in Contains pieces piece) code text.text;
      }

pub brings_new_code : TextsStand → PlacesKeepOrder → PlacesAreFound → (running : Running) (retired gaps : List Range)
    (pre_file post_file : List ℕ) (plan : Plan) → Ascends (λ range. range) 0 gaps
    → planned running retired gaps pre_file post_file ≡ Ok plan → BringsNewCode running gaps pre_file post_file plan
brings_new_code texts keep find running retired gaps pre_file post_file plan ascend is =
    let it = is_planned running retired gaps pre_file post_file plan is in
    let made : AreSteps running gaps pre_file post_file =
    steps running retired gaps pre_file post_file plan ascend it in
    let all = olds_of it.extract it.found it.pre in
    let placing = parts_of it.extract it.post in
    record {
      steps = made;
      each =
          subst (λ (p : Plan). All (HasNewCode running gaps pre_file post_file made p.pieces) p.report.replaced)
          it.plan_is
          (All-weaker (HasNewText it.post placing it.placement it.values all)
          (HasNewCode running gaps pre_file post_file made
          (new_pieces it.post placing it.placement it.values))
          (new_code running retired gaps pre_file post_file plan ascend it keep find)
          (report_of placing it.placement all).replaced (texts it.post placing it.placement it.values all));
    }
