-- Each section of each object that was linked stands at its place.
use Rattle.std.proofs.Common.{◌≡◌, ◌≢◌, ℕ, zero, suc, ◌+◌, ◌-◌, ◌<◌, ◌≤◌, ◌^◌, Bool, true, false, List, [], ◌∷◌, length}
use Rattle.std.proofs.Common.{get_or}
use Rattle.std.proofs.Common.{refl, sym, ap, subst, ◌∙◌, arith, inl, inr, Option, Some, None}
use Rattle.std.specs.Prelude.{Ok, nat_lt, slice_index, unwrap_or}
use Rattle.std.specs.List.{flat_map, fold, list_any, slice_get}
use Rattle.std.specs.Option.{option_or}
use Rattle.std.proofs.lemmas.Bool.Decides.{nat_tests}
use Rattle.std.proofs.lemmas.List.{length-replicate}
use Rattle.ks_base.specs.declared.refusals.Refusal.{Refusal}
use Rattle.i386_reloc.specs.declared.types.Class.{Class}
use Rattle.i386_reloc.specs.declared.types.Class.TheVariants as classes
use Rattle.i386_reloc.specs.declared.types.Form.{Form}
use Rattle.i386_reloc.specs.declared.types.Form.TheVariants.{Absolute, Relative}
use Rattle.i386_reloc.specs.declared.types.Ref.{Ref}
use Rattle.i386_reloc.specs.declared.types.NormalSection.{NormalSection}
use Rattle.i386_reloc.specs.Normal.{section_named}
use Rattle.i386_reloc.specs.Value.{value_of}
use Rattle.image_memory.specs.declared.types.Kind.{Kind}
use Rattle.image_memory.specs.declared.types.Kind.TheVariants.{Code, ReadOnly, Writable}
use Rattle.image_memory.specs.Contents.{look_at}
use Rattle.image_file.specs.Reading.{Contents}
use Rattle.ia32_decode.specs.Encoding.{dword_in}
use Rattle.link_post.specs.declared.types.Placed.{Placed}
use Rattle.link_post.specs.Values.{ValueList}
use Rattle.link_post.specs.Places.{base_in}
use Rattle.link_post.specs.Sections.{kind_of_class}
use Rattle.link_post.specs.Linked.{address_of, beyond, filled, linked, linked_by, linked_section}
use Rattle.match_constants.specs.Constants.{covers}
use Rattle.image_link.specs.Regions.{kind_of, start_of}
use Rattle.image_link.specs.Places.{Laid, end_in, first_ends, laid_out, last_ends}
use Rattle.image_link.specs.Places.{total_length}
use Rattle.image_link.specs.Symbols.{all_symbols}
use Rattle.image_link.specs.Refused.{link_fault, refused_where, size_fault}
use Rattle.image_link.specs.Linked.{Filled, filled_in, filled_part, global_values, image_of_laid, image_unless}
use Rattle.image_link.specs.Linked.{linked_image}
use Rattle.image_link.specs.Linked.{regions}
use Rattle.linked_code.specs.Standing.{StandAsCode}
use Rattle.linked_places.specs.Solves.{memory_of}
use Rattle.linked_places.specs.Held.{IsHeld, IsHeldSomewhere, PlacesHoldSections}
use Rattle.linked_places.proofs.Members.{Has, has_flat, has_of}
use Rattle.linked_places.proofs.HeldWords.{field_holds, length-with_fields, outside_fields, with_field}
use Rattle.linked_places.proofs.HeldRegions.{Stacked}
use Rattle.linked_places.proofs.HeldViews.{AreRegions, ends_low as lies_low, fetched_at, pieces_of, seen_at}
use Rattle.linked_places.proofs.HeldPlaces.{IsAt, all_stacked, is_at, is_laid, part_in}
use Rattle.linked_places.proofs.HeldFields.{IsGood, IsGoodObject, objects_good}
use Rattle.linked_places.proofs.ReadObjects.{SectionsAreWhole}

-- ---- the linked bytes of a section
value_low : (form : Form) (s a p : ℕ) → value_of form s a p < 2 ^ 32
value_low Absolute s a p = omega arith
value_low Relative s a p = omega arith

module _ (object : List NormalSection) (places : List Placed) (values : ValueList) where
  -- the word of a reference's field
  abbrev word_at : ℕ → Ref → ℕ
  word_at base r = value_of r.form (address_of object places values r) r.addend (beyond base r.offset)

  filled_is : (base : ℕ) (bytes : List ℕ) (refs : List Ref)
      → fold (filled object places values base) bytes refs ≡ fold (with_field (word_at base)) bytes refs
  unfolding filled
  filled_is base bytes [] = refl
  filled_is base bytes (r ∷ refs) = filled_is base (with_field (word_at base) bytes r) refs

  linked_is : (section : NormalSection) (base : ℕ) → section_named object section.name ≡ Some section
      → base_in places section.name ≡ Some base
      → linked object places values section.name ≡ linked_by section.class object places values section base
  unfolding linked
  linked_is section base named placed =
      ap (linked_section object places values) named
      ∙ ap (λ o. linked_by section.class object places values section (unwrap_or o 0)) placed

  by_fields : (class : Class) (section : NormalSection) (base : ℕ) → class ≢ classes.Zero
      → linked_by class object places values section base ≡ fold (with_field (word_at base)) section.bytes section.refs
  by_fields classes.Zero section base stored = absurd (stored refl)
  by_fields classes.Code section base stored = filled_is base section.bytes section.refs
  by_fields classes.Writable section base stored = filled_is base section.bytes section.refs
  by_fields classes.Strings section base stored = filled_is base section.bytes section.refs
  by_fields classes.ReadOnly section base stored = filled_is base section.bytes section.refs

  length-linked_by : (class : Class) (section : NormalSection) (base : ℕ)
      → (class ≢ classes.Zero → length section.bytes ≡ section.size)
      → length (linked_by class object places values section base) ≡ section.size
  length-linked_by classes.Zero section base all = length-replicate section.size 0
  length-linked_by classes.Code section base all =
      ap length (filled_is base section.bytes section.refs)
      ∙ length-with_fields (word_at base) section.bytes section.refs ∙ all (λ e. cc)
  length-linked_by classes.Writable section base all =
      ap length (filled_is base section.bytes section.refs)
      ∙ length-with_fields (word_at base) section.bytes section.refs ∙ all (λ e. cc)
  length-linked_by classes.Strings section base all =
      ap length (filled_is base section.bytes section.refs)
      ∙ length-with_fields (word_at base) section.bytes section.refs ∙ all (λ e. cc)
  length-linked_by classes.ReadOnly section base all =
      ap length (filled_is base section.bytes section.refs)
      ∙ length-with_fields (word_at base) section.bytes section.refs ∙ all (λ e. cc)

  length-linked : (section : NormalSection) → IsGood object section
      → length (linked object places values section.name) ≡ section.size
  unfolding linked
  length-linked section good =
      ap (λ o. length (linked_section object places values o)) good.named
      ∙ length-linked_by section.class section (unwrap_or (base_in places section.name) 0) good.whole.all

  module _ (section : NormalSection) (base : ℕ) (good : IsGood object section)
      (placed : base_in places section.name ≡ Some base) where
    stored_is : section.class ≢ classes.Zero
        → linked object places values section.name ≡ fold (with_field (word_at base)) section.bytes section.refs
    stored_is stored = linked_is section base good.named placed ∙ by_fields section.class section base stored

    outside_is : section.class ≢ classes.Zero → (k : ℕ) → list_any (covers k) section.refs ≡ false
        → slice_index (linked object places values section.name) k ≡ slice_index section.bytes k
    outside_is stored k none =
        ap (λ (l : List ℕ). get_or l k 0) (stored_is stored)
        ∙ outside_fields (word_at base) section.bytes section.refs k none

    field_is : (r : Ref) → Has section.refs r
        → dword_in (linked object places values section.name) r.offset ≡ word_at base r
    field_is r has =
        let stored = good.fields.stored r has in
        let all = good.whole.all stored in
        ap (λ (l : List ℕ). dword_in l r.offset) (stored_is stored)
        ∙ field_holds (word_at base) section.bytes section.refs r good.fields.apart
        (λ s has_s. subst (λ n. s.offset + 4 ≤ n) (sym all) (good.fields.inside s has_s))
        (value_low r.form (address_of object places values r) r.addend (beyond base r.offset)) has

-- ---- where the regions end
no_first : (a b : Option Refusal) → option_or a b ≡ None → a ≡ None
no_first None b none = refl
no_first (Some r) b none = absurd cc

not_refused : (b : Bool) (r : Refusal) → refused_where b r ≡ None → b ≡ false
not_refused true r none = absurd cc
not_refused false r none = refl

length_low : (objects : List (List NormalSection)) → link_fault objects ≡ None → total_length objects ≤ 16777216
unfolding link_fault
length_low objects none =
    let small = not_refused (nat_lt 16777216 (total_length objects)) _ (no_first (size_fault objects) _ none) in
    grind (arith, nat_tests, small)

-- ---- the image
module _ (objects : List (List NormalSection)) (values : ValueList)
    (good : (object : List NormalSection) → Has objects object → IsGoodObject object) where
  abbrev parts : Kind → List Filled
  parts kind = flat_map (filled_in kind values) (laid_out objects)

  abbrev high : Kind → ℕ
  high kind = end_in (last_ends objects) kind

  starts : (kind : Kind) → end_in first_ends kind ≡ start_of kind
  starts Code = refl
  starts ReadOnly = refl
  starts Writable = refl

  parts_long : (laid : Laid) → Has (laid_out objects) laid → (s : NormalSection) → Has laid.object s
      → length (linked laid.object laid.places values s.name) ≡ s.size
  parts_long laid has s has_s =
      let is = is_laid first_ends objects laid has in
      length-linked laid.object laid.places values s ((good laid.object is.has).each s has_s)

  stacked_parts : (kind : Kind) → Stacked (start_of kind) (high kind) (parts kind)
  stacked_parts kind =
      subst (λ n. Stacked n (high kind) (parts kind)) (starts kind)
      (all_stacked kind values first_ends objects parts_long)

  ends_low : link_fault objects ≡ None → (kind : Kind) → high kind ≤ start_of kind + 16777216
  ends_low none Code = let low = length_low objects none in omega arith
  ends_low none ReadOnly = let low = length_low objects none in omega arith
  ends_low none Writable = let low = length_low objects none in omega arith

  starts_low : (kind : Kind) → start_of kind ≤ 0x0300_0000
  starts_low Code = omega arith
  starts_low ReadOnly = omega arith
  starts_low Writable = omega arith

  are_regions : link_fault objects ≡ None → AreRegions parts high
  are_regions none =
      let code = ends_low none Code in
      let read_only = ends_low none ReadOnly in
      record {
        stacked = stacked_parts;
        code_low = omega arith;
        read_only_low = omega arith;
        all_low = λ kind. let start = starts_low kind in let end = ends_low none kind in omega (arith, start, end);
      }

regions_are : (objects : List (List NormalSection)) (values : ValueList)
    (good : (object : List NormalSection) → Has objects object → IsGoodObject object)
    → regions (laid_out objects) values ≡ pieces_of (parts objects values good)
unfolding regions
regions_are objects values good = refl

record IsImage (objects : List (List NormalSection)) (image : Contents) : Type 0 where
  kept : link_fault objects ≡ None
  is : image_of_laid (laid_out objects) ≡ image

image_by : (objects : List (List NormalSection)) (image : Contents) (o : Option Refusal) → link_fault objects ≡ o
    → image_unless o (image_of_laid (laid_out objects)) ≡ Ok image → IsImage objects image
image_by objects image (Some r) fault is = absurd cc
image_by objects image None fault is = record { kept = fault; is = cc }

is_image : (objects : List (List NormalSection)) (image : Contents) → linked_image objects ≡ Ok image
    → IsImage objects image
unfolding linked_image
is_image objects image is = image_by objects image (link_fault objects) refl is

-- ---- a section of an object stands at its place
module _ (objects : List (List NormalSection)) (none : link_fault objects ≡ None)
    (good : (object : List NormalSection) → Has objects object → IsGoodObject object)
    (laid : Laid) (has : Has (laid_out objects) laid) (section : NormalSection) (has_section : Has laid.object section)
  where
    abbrev image : Contents
    image = image_of_laid (laid_out objects)

    abbrev values : ValueList
    values = global_values (all_symbols (laid_out objects))

    pieces_are : image.pieces ≡ pieces_of (parts objects values good)
    unfolding image_of_laid
    pieces_are = regions_are objects values good

    symbols_are : image.symbols ≡ all_symbols (laid_out objects)
    unfolding image_of_laid
    symbols_are = refl

    of_object : IsGoodObject laid.object
    of_object = good laid.object (is_laid first_ends objects laid has).has

    at : IsAt laid.object laid.places section
    at =
        let is = is_laid first_ends objects laid has in
        subst (λ ps. IsAt laid.object ps section) (sym is.places)
        (is_at is.ends laid.object section of_object.differ has_section)

    abbrev here : Filled
    here = filled_part laid values (section, record { section = section.name; base = at.base })

    part_here : Has (parts objects values good (kind_of section)) here
    part_here = has_flat (filled_in (kind_of section) values) (laid_out objects) laid here has
        (part_in values laid section at)

    long : length (linked laid.object laid.places values section.name) ≡ section.size
    long = parts_long objects values good laid has section has_section

    regions_here : AreRegions (parts objects values good) (high objects values good)
    regions_here = are_regions objects values good none

    end_here : at.base + section.size ≤ 0xFFFF_0000
    end_here =
        let whole = (of_object.each section has_section).whole in
        let some = whole.some in
        let last = lies_low (parts objects values good) (high objects values good) regions_here (kind_of section) here
        (section.size - 1) part_here (omega (arith, long, some)) in
        omega (arith, last, some)

    memory_is : memory_of image ≡ record { pieces = pieces_of (parts objects values good); fences = [] }
    memory_is = ap (λ ps. record { pieces = ps; fences = [] }) pieces_are

    as_code : section.class ≡ classes.Code
        → StandAsCode (memory_of image) at.base (linked laid.object laid.places values section.name)
    as_code code =
        let kind : kind_of section ≡ Code = ap kind_of_class code in
        let part : Has (parts objects values good Code) here =
        subst (λ k. Has (parts objects values good k) here) kind part_here in
        subst (λ m. StandAsCode m at.base (linked laid.object laid.places values section.name)) (sym memory_is)
        (record {
          low = let ends = end_here in omega (arith, ends, long);
          fetched = λ k low.
              fetched_at (parts objects values good) (high objects values good) regions_here here k part low;
        })

    held : IsHeld image laid section at.base
    held =
        let own = of_object.each section has_section in
        record {
          bytes = linked laid.object laid.places values section.name;
          size = long;
          low = end_here;
          stands = λ k low. ap (λ ps. look_at ps (at.base + k)) pieces_are
              ∙ seen_at (parts objects values good) (high objects values good) regions_here (kind_of section) here k
              part_here (omega (arith, long, low));
          fetched = as_code;
          outside = λ stored k low covered.
              outside_is laid.object laid.places values section at.base own at.found stored k covered;
          fields = λ r contains.
              field_is laid.object laid.places values section at.base own at.found r (has_of section.refs r contains)
              ∙ ap (λ symbols. value_of r.form (address_of laid.object laid.places (global_values symbols) r) r.addend
              (beyond at.base r.offset)) (sym symbols_are);
        }

    held_somewhere : IsHeldSomewhere image laid section
    held_somewhere = record { base = at.base; placed = at.found; held = held }

got_has : {X : Type 0} (xs : List X) (k : ℕ) (x : X) → slice_get xs k ≡ Some x → Has xs x
got_has [] k x is = absurd cc
got_has (y ∷ xs) zero x is = inl (let e : y ≡ x = cc in e)
got_has (y ∷ xs) (suc k) x is = inr (got_has xs k x is)

pub places_hold : SectionsAreWhole → PlacesHoldSections
places_hold whole files objects image laid read linked among place section got =
    let it = is_image objects image linked in
    subst (λ i. IsHeldSomewhere i laid section) it.is
    (held_somewhere objects it.kept (objects_good whole files objects read) laid
    (has_of (laid_out objects) laid among) section (got_has laid.object place section got))
