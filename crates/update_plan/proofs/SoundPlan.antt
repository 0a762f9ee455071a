-- A plan can be carried out.
use Rattle.std.proofs.Common.{◌≡◌, ◌≢◌, ℕ, ◌^◌, ◌<◌, ◌≤◌, true, List, map, None, refl, sym, ap, subst, ◌∙◌}
use Rattle.std.proofs.Common.{arith}
use Rattle.std.specs.Prelude.{Ok}
use Rattle.std.specs.List.{All, IsDistinct, filter}
use Rattle.std.specs.Cmp.Lexicographic.{bytes_decides}
use Rattle.ks_base.specs.declared.places.Range.{Range}
use Rattle.symbol_table.specs.declared.symbols.Symbol.{Symbol}
use Rattle.i386_reloc.specs.Rules.{object_fault}
use Rattle.i386_reloc.specs.declared.types.NormalSection.{NormalSection}
use Rattle.i386_reloc.specs.Normal.{loaded_sections, name_of, same_bytes}
use Rattle.image_memory.specs.declared.types.Piece.{Piece}
use Rattle.image_memory.specs.Ranges.{Ascends}
use Rattle.image_memory.specs.Contents.{Contents, IsValid, piece_range}
use Rattle.image_memory.specs.Changes.{IsPlaceable}
use Rattle.image_memory.specs.Fetch.{HasCode}
use Rattle.splice_jump.specs.Jumps.{AreSpliced}
use Rattle.extract_post.specs.declared.types.Extract.{Extract}
use Rattle.extract_post.specs.Extracted.{is_changed, lists_of}
use Rattle.extract_post.specs.declared.role.Role.TheVariants.{Changed}
use Rattle.extract_post.specs.Roles.{is_among}
use Rattle.symbol_solve.specs.Candidates.{Running, code_sections}
use Rattle.symbol_solve.specs.Solve.{Value, solved}
use Rattle.symbol_solve.specs.Answered.{IsAnswered}
use Rattle.link_post.specs.declared.types.Placed.{Placed}
use Rattle.link_post.specs.declared.types.SectionSize.{SectionSize}
use Rattle.link_post.specs.Values.{ValueList}
use Rattle.link_post.specs.Places.{ArePlaces, placed}
use Rattle.update_retired.specs.declared.types.OldFunction.{OldFunction}
use Rattle.update_retired.specs.Room.{room}
use Rattle.update_retired.specs.Retired.{AreInUse, body_range, retired_by, section_of}
use Rattle.update_retired.specs.Overlaps.{LieApart, code_refusal}
use Rattle.update_pieces.specs.Parts.{AtPlace, NewPart, at_places, new_part, placed_part, size_of}
use Rattle.update_pieces.specs.Pieces.{new_piece, new_pieces}
use Rattle.i386_reloc.specs.Whole.{AreWhole}
use Rattle.update_pieces.specs.Apart.{AreNewPieces, ArePartsOf}
use Rattle.update_plan.specs.declared.types.Plan.{Plan}
use Rattle.update_plan.specs.Olds.{olds_of}
use Rattle.update_plan.specs.Placing.{parts_of}
use Rattle.update_plan.specs.Plan.{plan_of, planned}
use Rattle.update_plan.specs.Sound.{AreGaps, AreListed, CanBeMade, IsCode}
use Rattle.update_plan.proofs.SoundLists.{Has, Pairs, all_has, all_of, filter_has, has_any, has_map, map_has}
use Rattle.update_plan.proofs.SoundFile.{distinct_in, is_file, named_itself, names_differ}
use Rattle.update_plan.proofs.SoundOlds.{IsOldOf, is_old, olds_distinct, sections_differ}
use Rattle.update_plan.proofs.SoundParts.{has_part, has_place, is_changed_role, parts_are_of, parts_differ}
use Rattle.update_plan.proofs.SoundParts.{place_role, places_differ}
use Rattle.update_plan.proofs.SoundPieces.{alone, apart, placeable}
use Rattle.update_plan.proofs.SoundFences.{fences_apart, from_fences, full}
use Rattle.update_plan.proofs.SoundCode.{fences_are_code}
use Rattle.update_plan.proofs.SoundJumps.{all_fit, all_marked, each_once, jump_code}
use Rattle.update_plan.proofs.SoundSteps.{IsPlanned, is_planned, lists_are}

-- what the crates below say of all objects, memories and places
abbrev pub BodiesAreTold : Type 0
BodiesAreTold = (running : Running) (object : List NormalSection) (values : List Value) → IsValid running.contents →
    IsDistinct same_bytes (map name_of object) →
    solved object running.bodies running.contents running.symbols ≡ Ok values →
    All (IsAnswered running values) (code_sections object)

abbrev pub BodiesAreInUse : Type 0
BodiesAreInUse = (running : Running) (object : List NormalSection) (values : ValueList) (extract : Extract) →
    IsValid running.contents → solved object running.bodies running.contents running.symbols ≡ Ok values →
    AreInUse running.contents (olds_of extract values object)

abbrev pub BodiesAreCode : Type 0
BodiesAreCode = (running : Running) (object : List NormalSection) (values : ValueList) (extract : Extract) →
    IsValid running.contents → solved object running.bodies running.contents running.symbols ≡ Ok values →
    All (λ (old : OldFunction). IsCode running.contents.pieces (body_range old)) (olds_of extract values object)

abbrev pub PlacesLieApart : Type 0
PlacesLieApart = (sizes : List SectionSize) (gaps : List Range) (places : List Placed) →
    Ascends (λ range. range) 0 gaps → placed sizes gaps ≡ Ok places → ArePlaces gaps sizes places

abbrev pub SectionsAreWhole : Type 0
SectionsAreWhole = (bytes : List ℕ) → object_fault bytes ≡ None → AreWhole (loaded_sections bytes)

abbrev pub PiecesLieApart : Type 0
PiecesLieApart = (post : List NormalSection) (parts : List NewPart) (gaps : List Range) (placement : List Placed)
    (values : ValueList) → Ascends (λ range. range) 0 gaps → ArePartsOf post parts →
    placed (map size_of parts) gaps ≡ Ok placement →
    AreNewPieces gaps parts placement (new_pieces post parts placement values)

abbrev pub RetiredLieApart : Type 0
RetiredLieApart = (contents : Contents) (symbols : List Symbol) (retired : List Range) (olds : List OldFunction) →
    IsDistinct same_bytes (map section_of olds) → All (λ (old : OldFunction). 0 < old.length) olds →
    code_refusal contents symbols retired olds ≡ None → LieApart (retired_by olds) retired

abbrev pub RoomIsCode : Type 0
RoomIsCode = (contents : Contents) (symbols : List Symbol) (home length n : ℕ) → n ≤ room contents symbols home length →
    HasCode contents.pieces home n

-- a section that is changed is one of the new object
pub changed_has : (pre post : List NormalSection) (extract : Extract) (name : List ℕ) → lists_of pre post ≡ extract →
    is_among extract.changed name ≡ true →
    (section : NormalSection) × Has post section × (section.name ≡ name) × (is_changed pre post section.name ≡ true)
changed_has pre post extract name is among =
    let (other, in_changed, same) = has_any (λ (n : List ℕ). same_bytes n name) extract.changed among in
    let in_picked : Has (map name_of (filter (λ (s : NormalSection). is_changed pre post s.name) post)) other =
    subst (λ (names : List (List ℕ)). Has names other) (sym (ap (λ (e : Extract). e.changed) is)) in_changed in
    let (section, in_filter, named) = map_has name_of
    (filter (λ (s : NormalSection). is_changed pre post s.name) post) other in_picked in
    let kept = filter_has (λ (s : NormalSection). is_changed pre post s.name) post section in_filter in
    (section, kept.0, named ∙ (bytes_decides other name).0 same, kept.1)

module _ (running : Running) (retired gaps : List Range) (pre_file post_file : List ℕ) (plan : Plan)
    (valid : IsValid running.contents) (spliced : AreSpliced running.contents running.bodies)
    (all_listed : AreListed running.contents retired) (are_gaps : AreGaps running.contents gaps)
    (it : IsPlanned running retired gaps pre_file post_file plan) where
  abbrev olds : List OldFunction
  olds = olds_of it.extract it.found it.pre

  abbrev parts : List NewPart
  parts = parts_of it.extract it.post

  abbrev at_all : List AtPlace
  at_all = at_places parts it.placement

  abbrev pieces : List Piece
  pieces = new_pieces it.post parts it.placement it.values

  pre_differ : Pairs (λ (a b : NormalSection). a.name ≢ b.name) it.pre
  pre_differ = names_differ pre_file it.pre (is_file pre_file it.pre it.pre_is)

  post_differ : Pairs (λ (a b : NormalSection). a.name ≢ b.name) it.post
  post_differ = names_differ post_file it.post (is_file post_file it.post it.post_is)

  each_old : BodiesAreTold → (old : OldFunction) → Has olds old → IsOldOf running.bodies it.extract old
  each_old told =
      is_old running it.extract it.found it.pre
      (told running it.pre it.found valid (distinct_in pre_file it.pre (is_file pre_file it.pre it.pre_is)) it.found_is)

  lies : BodiesAreTold → RetiredLieApart → LieApart (retired_by olds) retired
  lies told law =
      law running.contents running.symbols retired olds (olds_distinct it.extract it.found it.pre pre_differ)
      (all_of (λ (old : OldFunction). 0 < old.length) olds (λ old has. (each_old told old has).some)) it.clear

  are_pieces : SectionsAreWhole → PiecesLieApart → AreNewPieces gaps parts it.placement pieces
  are_pieces whole lie =
      let file = is_file post_file it.post it.post_is in
      lie it.post parts gaps it.placement it.values are_gaps.ascend
      (parts_are_of it.extract it.post (named_itself post_file it.post file)
      (subst AreWhole file.is (whole post_file file.object))) it.placement_is

  low_places : SectionsAreWhole → PiecesLieApart → (x : AtPlace) → Has at_all x → x.base < 2 ^ 32
  low_places whole lie x has =
      let piece = new_piece it.post it.placement it.values x in
      let fits : IsPlaceable (piece_range piece) =
      all_has (λ (p : Piece). IsPlaceable (piece_range p)) pieces piece
      (placeable running.contents gaps parts it.placement pieces are_gaps (are_pieces whole lie))
      (has_map (new_piece it.post it.placement it.values) at_all x has) in
      let full = fits.0 in
      let below = fits.1 in
      omega (arith, full, below)

  changed_place : PlacesLieApart → (name : List ℕ) → is_among it.extract.changed name ≡ true →
      (x : AtPlace) × Has at_all x × (x.role ≡ Changed) × (x.section.name ≡ name)
  changed_place places name among =
      let (section, in_post, named, passes) = changed_has it.pre it.post it.extract name
      (lists_are it.pre it.post it.extract it.extract_is) among in
      let role = is_changed_role it.extract section.name
      (ap (is_among it.extract.changed) named ∙ among) in
      let part = has_part it.extract it.post section Changed in_post role in
      let (base, has) = has_place gaps parts it.placement (new_part section Changed)
      (places (map size_of parts) gaps it.placement are_gaps.ascend it.placement_is).each part in
      (placed_part section Changed base, has, refl, named)

  pub made : BodiesAreTold → BodiesAreInUse → BodiesAreCode → PlacesLieApart → SectionsAreWhole → PiecesLieApart →
      RetiredLieApart → RoomIsCode → CanBeMade running.contents plan
  made told used coded places whole lie law room_coded =
      let are = are_pieces whole lie in
      let apart_olds = lies told law in
      let old_is = each_old told in
      let listed = place_role it.extract it.post it.placement in
      let here : CanBeMade running.contents (plan_of running it.pre it.post it.values olds parts it.placement) = record {
        placeable = placeable running.contents gaps parts it.placement pieces are_gaps are;
        apart = apart running.contents gaps parts it.placement pieces are_gaps are;
        alone = alone running.contents gaps parts it.placement pieces are_gaps are;
        full = full olds retired apart_olds;
        code = fences_are_code running.contents valid olds
            (coded running it.pre it.found it.extract valid it.found_is)
            (jump_code running.contents running.symbols retired olds it.clear
            (room_coded running.contents running.symbols));
        retired_apart = fences_apart olds retired apart_olds;
        in_use = from_fences olds retired apart_olds running.contents all_listed;
        jumps = all_fit running.contents running.bodies retired spliced it.extract olds at_all apart_olds old_is listed
            running.symbols it.clear (room_coded running.contents running.symbols) (low_places whole lie);
        once = each_once running.contents running.bodies retired spliced it.extract olds at_all apart_olds old_is listed
            (places_differ parts it.placement (parts_differ it.extract it.post post_differ));
        marked = all_marked running.contents running.bodies retired spliced it.extract olds at_all apart_olds old_is
            listed (used running it.pre it.found it.extract valid it.found_is)
            (sections_differ it.extract it.found it.pre pre_differ) (changed_place places);
      } in
      subst (CanBeMade running.contents) it.plan_is here

pub all_made : BodiesAreTold → BodiesAreInUse → BodiesAreCode → PlacesLieApart → SectionsAreWhole → PiecesLieApart →
    RetiredLieApart → RoomIsCode → (running : Running) (retired gaps : List Range) (pre_file post_file : List ℕ) (plan : Plan) →
    IsValid running.contents → AreSpliced running.contents running.bodies → AreListed running.contents retired →
    AreGaps running.contents gaps → planned running retired gaps pre_file post_file ≡ Ok plan →
    CanBeMade running.contents plan
all_made told used coded places whole lie law room_coded running retired gaps pre_file post_file plan valid spliced
    listed are_gaps is =
    made running retired gaps pre_file post_file plan valid spliced listed are_gaps
    (is_planned running retired gaps pre_file post_file plan is) told used coded places whole lie law room_coded
