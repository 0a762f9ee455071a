-- Fields are filled by the places of sections as by their names.
use Rattle.std.proofs.Common.{◌≡◌, ◌≢◌, ℕ, suc, Bool, true, false, cond, if◌then◌else◌, List, [], ◌∷◌, map, replicate}
use Rattle.std.proofs.Common.{Option, Some, None, option_map, unwrap_or, refl, sym, ap, ◌∙◌}
use Rattle.std.specs.List.{slice_get, filter, find, fold}
use Rattle.std.proofs.lemmas.Option.{same_Some}
use Rattle.i386_reloc.specs.declared.types.Class.{Class}
use Rattle.i386_reloc.specs.declared.types.Class.TheVariants.{Zero, Code, Writable, Strings, ReadOnly}
use Rattle.i386_reloc.specs.laws.NamedPlaces.{section_at_place}
use Rattle.i386_reloc.specs.laws.PlaceLaws.{section_named_at}
use Rattle.std.specs.Option.{option_or}
use Rattle.symbol_table.specs.declared.symbols.Symbol.{Symbol}
use Rattle.symbol_table.specs.declared.values.Unknown.TheVariants as unknown
use Rattle.symbol_table.specs.Unknowns.{address_in}
use Rattle.i386_reloc.specs.declared.types.Target.{Target}
use Rattle.i386_reloc.specs.declared.types.Target.TheVariants.{Section, Outside, Text}
use Rattle.i386_reloc.specs.declared.types.Ref.{Ref}
use Rattle.i386_reloc.specs.declared.types.NormalSection.{NormalSection}
use Rattle.i386_reloc.specs.Classes.{is_code_class}
use Rattle.i386_reloc.specs.Normal.{name_of, same_bytes}
use Rattle.i386_reloc.specs.Places.{at_place, place_named, place_of_target}
use Rattle.i386_reloc.specs.Reaches.{is_data_class, is_in, is_interior}
use Rattle.i386_reloc.specs.Value.{value_of}
use Rattle.link_post.specs.declared.types.Placed.{Placed}
use Rattle.link_post.specs.Places.{base_in}
use Rattle.link_post.specs.Values.{ValueList, solved_as}
use Rattle.link_post.specs.Linked.{address_of, beyond, filled, linked, linked_by, linked_section, section_address}
use Rattle.link_post.specs.Linked.{section_of, target_address, value_in, with_word}
use Rattle.image_link.specs.Linked.{global_value, global_values, is_global}
use Rattle.image_link.specs.inside.Filling.{address_at, base_at, AreAllPlaced, OfNames}

-- ---- places by name and by index
base_at-suc : (place : Placed) (places : List Placed) (at : Option ℕ)
    → base_at (place ∷ places) (option_map suc at) ≡ base_at places at
base_at-suc place places None = refl
base_at-suc place places (Some at) = refl

pub base_named : (object : List NormalSection) (places : List Placed) (name : List ℕ) → AreAllPlaced object places
    → base_in places name ≡ base_at places (place_named object name)
base_named [] [] name are = refl
base_named [] (place ∷ places) name are = absurd cc
base_named (section ∷ object) [] name are = absurd cc
base_named (section ∷ object) (place ∷ places) name are =
    let head : place.section ≡ section.name = cc in
    let tail : map section_of places ≡ map name_of object = cc in
    let rest = find (λ (one : Placed). same_bytes one.section name) places in
    ap (λ n. option_map (λ (one : Placed). one.base) (cond (same_bytes n name) (Some place) rest)) head
    ∙ elim (same_bytes section.name name) as (λ b. option_map (λ (one : Placed). one.base) (cond b (Some place) rest)
    ≡ base_at (place ∷ places) (cond b (Some 0) (option_map suc (place_named object name)))) [
      | true ↦ refl
      | false ↦ base_named object places name tail ∙ sym (base_at-suc place places (place_named object name))
    ]

-- ---- values of names
no_code : (symbols : List Symbol) (name : List ℕ) → solved_as (map global_value symbols) (unknown.Code name) ≡ None
no_code [] name = refl
no_code (symbol ∷ symbols) name = no_code symbols name

no_data : (symbols : List Symbol) (name : List ℕ) → solved_as (map global_value symbols) (unknown.Data name) ≡ None
no_data [] name = refl
no_data (symbol ∷ symbols) name = no_data symbols name

pub of_names : (symbols : List Symbol) → OfNames (global_values symbols)
unfolding global_values
of_names symbols = λ name. (
  ap (option_map address_in) (no_code (filter is_global symbols) name),
  ap (option_map address_in) (no_data (filter is_global symbols) name),
)

-- ---- the address of what a reference goes to
same_anyway : (code interior data_ : Bool) (base : Option ℕ)
    → (if code then (if interior then base else option_or None base) else (if data_ then option_or None base else base))
    ≡ base
same_anyway true true data_ base = refl
same_anyway true false data_ base = refl
same_anyway false interior true base = refl
same_anyway false interior false base = refl

address_is : (object : List NormalSection) (places : List Placed) (values : ValueList) (r : Ref) (target : Target)
    → AreAllPlaced object places → OfNames values
    → target_address object places values r target ≡ address_at places values (place_of_target object target) target
unfolding section_address
address_is object places values r (Outside name) are of = refl
address_is object places values r (Text section offset text) are of =
    ap (option_map (λ base. beyond base offset)) (base_named object places section are)
address_is object places values r (Section name) are of =
    let base = base_in places name in
    let code = is_in is_code_class object name in
    let changed = is_in is_data_class object name in
    ap (λ home. if code then (if is_interior r then base else option_or home base)
    else (if changed then option_or (value_in values (unknown.Data name)) base else base)) (of name).0
    ∙ ap (λ home. if code then (if is_interior r then base else option_or None base)
    else (if changed then option_or home base else base)) (of name).1
    ∙ same_anyway code (is_interior r) changed base
    ∙ base_named object places name are

pub filled_by : (object : List NormalSection) (places : List Placed) (values : ValueList) (base : ℕ) (bytes : List ℕ)
    (r : Ref) (target address : Option ℕ) → AreAllPlaced object places → OfNames values
    → target ≡ place_of_target object r.target → address ≡ address_at places values target r.target
    → with_word bytes r.offset (value_of r.form (unwrap_or address 0) r.addend (beyond base r.offset))
    ≡ filled object places values base bytes r
unfolding filled address_of
filled_by object places values base bytes r target address are of at is =
    ap (λ s. with_word bytes r.offset (value_of r.form (unwrap_or s 0) r.addend (beyond base r.offset)))
    (is ∙ ap (λ t. address_at places values t r.target) at ∙ sym (address_is object places values r r.target are of))

-- ---- the bytes of a section
name_there : (object : List NormalSection) (name : List ℕ) (place : ℕ) (section : NormalSection)
    → place_named object name ≡ Some place → slice_get object place ≡ Some section → section.name ≡ name
name_there object name place section is there =
    let (s, at, same) = section_at_place object name place is in
    ap name_of (sym (same_Some s section (sym at ∙ there))) ∙ same

pub no_bytes : (object : List NormalSection) (places : List Placed) (values : ValueList) (name : List ℕ)
    → place_named object name ≡ None → [] ≡ linked object places values name
unfolding linked
no_bytes object places values name none =
    sym (ap (linked_section object places values) (section_named_at object name ∙ ap (at_place object) none))

pub nothing_there : (object : List NormalSection) (places : List Placed) (values : ValueList) (name : List ℕ) (place : ℕ)
    → place_named object name ≡ Some place → slice_get object place ≡ None → [] ≡ linked object places values name
unfolding linked
nothing_there object places values name place is gone =
    sym (ap (linked_section object places values) (section_named_at object name ∙ ap (at_place object) is ∙ gone))

pub zeros_there : (object : List NormalSection) (places : List Placed) (values : ValueList) (name : List ℕ) (place : ℕ)
    (section : NormalSection) → place_named object name ≡ Some place → slice_get object place ≡ Some section
    → section.class ≡ Zero → replicate section.size 0 ≡ linked object places values name
unfolding linked
zeros_there object places values name place section is there zero =
    sym (ap (linked_section object places values) (section_named_at object name ∙ ap (at_place object) is ∙ there)
    ∙ ap (λ class. linked_by class object places values section (unwrap_or (base_in places section.name) 0)) zero)

other_class : (class : Class) (object : List NormalSection) (places : List Placed) (values : ValueList)
    (section : NormalSection) (base : ℕ) → class ≢ Zero
    → linked_by class object places values section base
    ≡ fold (filled object places values base) section.bytes section.refs
other_class Zero object places values section base other = absurd (other refl)
other_class Code object places values section base other = refl
other_class Writable object places values section base other = refl
other_class Strings object places values section base other = refl
other_class ReadOnly object places values section base other = refl

pub filled_there : (object : List NormalSection) (places : List Placed) (values : ValueList) (name : List ℕ) (place : ℕ)
    (section : NormalSection) (base : ℕ) → AreAllPlaced object places → place_named object name ≡ Some place
    → slice_get object place ≡ Some section → section.class ≢ Zero
    → base ≡ unwrap_or (base_at places (Some place)) 0
    → fold (filled object places values base) section.bytes section.refs ≡ linked object places values name
unfolding linked
filled_there object places values name place section base are is there other at =
    let own : base_in places section.name ≡ base_at places (Some place) =
    ap (base_in places) (name_there object name place section is there) ∙ base_named object places name are
    ∙ ap (base_at places) is in
    ap (λ b. fold (filled object places values b) section.bytes section.refs) (at ∙ sym (ap (λ o. unwrap_or o 0) own))
    ∙ sym (other_class section.class object places values section (unwrap_or (base_in places section.name) 0) other)
    ∙ sym (ap (linked_section object places values) (section_named_at object name ∙ ap (at_place object) is ∙ there))
