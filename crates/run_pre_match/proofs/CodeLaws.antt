-- The section at a place of an object, and its code.
use Rattle.std.proofs.Common.{◌≡◌, ℕ, ◌<◌, Bool, List, length, get_or, Option, Some, None, false, true, refl, sym, ◌∙◌}
use Rattle.std.proofs.Common.{ap}
use Rattle.std.specs.Prelude.{IsTrue}
use Rattle.std.specs.Option.{option_map, IsSome}
use Rattle.std.specs.List.{slice_get}
use Rattle.std.proofs.lemmas.Option.{same_Some, slice_get-map, slice_get-get_or, slice_get_within}
use Rattle.std.proofs.lemmas.Option.{get_or_from_slice_get}
use Rattle.i386_reloc.specs.declared.types.NormalSection.{NormalSection}
use Rattle.i386_reloc.specs.declared.types.Class.{Class}
use Rattle.i386_reloc.specs.Normal.{section_named}
use Rattle.i386_reloc.specs.Places.{place_named, at_place}
use Rattle.i386_reloc.specs.laws.PlaceLaws.{section_named_at}
use Rattle.i386_reloc.specs.laws.NamedPlaces.{section_at_place}
use Rattle.i386_reloc.specs.Reaches.{has_class, is_in}
use Rattle.match_instructions.specs.Landing.{offsets_named, undecoded_offset}
use Rattle.run_pre_match.specs.Matched.{PreSection, code_unless, listed_code}
use Rattle.match_instructions.specs.Landing.{offsets_for, all_offsets}

-- a section that is in an object has a place
pub place_there : (wanted : Class → Bool) (object : List NormalSection) (name : List ℕ) (o : Option ℕ) →
    o ≡ place_named object name → IsTrue (is_in wanted object name) → IsSome o
place_there wanted object name (Some place) is held = refl
place_there wanted object name None is held =
    let none : has_class wanted (section_named object name) ≡ false =
    ap (has_class wanted) (section_named_at object name ∙ ap (at_place object) (sym is)) in
    let e : false ≡ true = sym none ∙ held in absurd cc

-- and the place is one of the object's
pub place_within : (object : List NormalSection) (name : List ℕ) (place : ℕ) → place_named object name ≡ Some place →
    place < length object
place_within object name place there =
    let (s, at, same) = section_at_place object name place there in slice_get_within object place s at

pub section_here : (object sections : List NormalSection) (place : ℕ) (d : NormalSection) → object ≡ sections →
    place < length object → d ≡ get_or sections place d → slice_get object place ≡ Some d
section_here object sections place d same lt is =
    slice_get-get_or object place d lt ∙ ap (λ (x : NormalSection). Some x) (ap (λ xs. get_or xs place d) same ∙ sym is)

-- the offsets that are named in it
pub offsets_here : (object : List NormalSection) (table : List (List ℕ)) (place : ℕ) (section : NormalSection)
    (d : List ℕ) → table ≡ all_offsets object → slice_get object place ≡ Some section → d ≡ get_or table place d →
    d ≡ offsets_named object section.name
offsets_here object table place section d kept at is =
    is ∙ ap (λ t. get_or t place d) kept
    ∙ get_or_from_slice_get (all_offsets object) place (offsets_named object section.name) d
    (slice_get-map (offsets_for object) object place ∙ ap (option_map (offsets_for object)) at)

abbrev pub at_hand : List NormalSection → ℕ → NormalSection → PreSection
at_hand object place section = record { object = object; place = place; section = section }

-- what comes of its code, by what is found of it
pub comes_code : (object : List NormalSection) (place : ℕ) (d section : NormalSection) (o found : Option ℕ) →
    slice_get object place ≡ Some d → slice_get object place ≡ Some section → o ≡ undecoded_offset object d →
    o ≡ found →
    listed_code (at_hand object place section) ≡ code_unless found (at_hand object place d)
comes_code object place d section o found here at is this =
    let same : d ≡ section = same_Some d section (sym here ∙ at) in
    ap (λ x. listed_code (at_hand object place x)) (sym same)
    ∙ ap (λ f. code_unless f (at_hand object place d)) (sym is ∙ this)
