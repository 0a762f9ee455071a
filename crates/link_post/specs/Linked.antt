-- The bytes of a new section at its place: its own, with the value of its reference in each field (Intel386
-- supplement, "Relocation").
use Rattle.std.specs.Prelude.{ℕ, suc, ◌+◌, ◌%◌, ◌^◌, ◌≤◌, nat_le, if◌then◌else◌, List, [], ◌∷◌, ◌++◌}
use Rattle.std.specs.Prelude.{replicate, length, take, drop, map, Option, Some, None, option_map, unwrap_or}
use Rattle.std.specs.Option.{option_or}
use Rattle.std.specs.List.{fold}
use Rattle.std.specs.Int.{w32, to_le_bytes}
use Rattle.symbol_table.specs.declared.values.Unknown.{Unknown}
use Rattle.symbol_table.specs.declared.values.Unknown.TheVariants as unknown
use Rattle.symbol_table.specs.Unknowns.{address_in}
use Rattle.i386_reloc.specs.declared.types.Class.{Class}
use Rattle.i386_reloc.specs.declared.types.Class.TheVariants.{Zero}
use Rattle.i386_reloc.specs.declared.types.Target.{Target}
use Rattle.i386_reloc.specs.declared.types.Target.TheVariants.{Section, Outside, Text}
use Rattle.i386_reloc.specs.declared.types.Ref.{Ref}
use Rattle.i386_reloc.specs.declared.types.NormalSection.{NormalSection}
use Rattle.i386_reloc.specs.Classes.{is_code_class}
use Rattle.i386_reloc.specs.Normal.{section_named}
use Rattle.i386_reloc.specs.Places.{place_named}
use Rattle.i386_reloc.specs.Reaches.{is_data_class, is_in, is_interior}
use Rattle.i386_reloc.specs.Value.{value_of}
use Rattle.link_post.specs.declared.types.Placed.{Placed}
use Rattle.link_post.specs.Values.{ValueList, solved_as}
use Rattle.link_post.specs.Places.{base_in}

-- where the section of a name stands among those of post, or past them where there is none
abbrev pub place_in : List NormalSection → List ℕ → ℕ
place_in post name = unwrap_or (place_named post name) (length post)

-- the numbers rise, from a floor on
abbrev pub Rise : ℕ → List ℕ → Type 0
Rise floor [] = Unit {0}
Rise floor (n ∷ ns) = (floor ≤ n) × Rise (suc n) ns

abbrev pub section_of : Placed → List ℕ
section_of placed = placed.section

-- names of sections in the order in which these stand in post, none twice
abbrev pub AreNamesInOrder : List NormalSection → List (List ℕ) → Type 0
AreNamesInOrder post names = Rise 0 (map (place_in post) names)

-- and places of sections
abbrev pub AreInOrder : List NormalSection → List Placed → Type 0
AreInOrder post placement = AreNamesInOrder post (map section_of placement)

-- what the running program, or an object that it was made from, gives for an unknown
abbrev pub value_in : ValueList → Unknown → Option ℕ
value_in values which = option_map address_in (solved_as values which)

-- Where a function is for a reference: an entry reference to one of pre goes to its home, one to an added function
-- to its new base; an interior reference always goes to the new base.
abbrev pub function_address : List Placed → ValueList → Ref → List ℕ → Option ℕ
function_address placement values r name =
    if is_interior r then base_in placement name
    else option_or (value_in values (unknown.Code name)) (base_in placement name)

-- Where a section is for a reference: data of pre stay where they are; carried sections and new data are where they
-- were placed.
unfoldable pub section_address : List NormalSection → List Placed → ValueList → Ref → List ℕ → Option ℕ
section_address post placement values r name =
    if is_in is_code_class post name then function_address placement values r name
    else (if is_in is_data_class post name then option_or (value_in values (unknown.Data name)) (base_in placement name)
    else base_in placement name)

-- an address counted from another, modulo 2 to the 32nd
abbrev pub beyond : (base offset : ℕ) → ℕ
beyond base offset = (base + offset) % 2 ^ 32

-- `S`, the address of what a reference goes to
abbrev pub target_address : List NormalSection → List Placed → ValueList → Ref → Target → Option ℕ
target_address post placement values r (Outside name) = value_in values (unknown.Outside name)
target_address post placement values r (Section name) = section_address post placement values r name
target_address post placement values r (Text section offset text) =
    option_map (λ base. beyond base offset) (base_in placement section)

-- `S`, and 0 where what it goes to has neither a place nor a value
unfoldable pub address_of : List NormalSection → List Placed → ValueList → Ref → ℕ
address_of post placement values r = unwrap_or (target_address post placement values r r.target) 0

-- bytes with a word in the field at an offset; a field that doesn't lie in them changes nothing
abbrev pub with_word : List ℕ → (offset word : ℕ) → List ℕ
with_word bytes offset word =
    if nat_le (offset + 4) (length bytes)
    then take offset bytes ++ (to_le_bytes w32 word ++ drop (offset + 4) bytes) else bytes

-- the bytes of a section at a base with the field of one reference filled
unfoldable pub filled : List NormalSection → List Placed → ValueList → ℕ → List ℕ → Ref → List ℕ
filled post placement values base bytes r =
    with_word bytes r.offset (value_of r.form (address_of post placement values r) r.addend (beyond base r.offset))

abbrev pub linked_by : Class → List NormalSection → List Placed → ValueList → NormalSection → ℕ → List ℕ
linked_by Zero post placement values section base = replicate section.size 0
linked_by _ post placement values section base = fold (filled post placement values base) section.bytes section.refs

abbrev pub linked_section : List NormalSection → List Placed → ValueList → Option NormalSection → List ℕ
linked_section post placement values None = []
linked_section post placement values (Some section) =
    linked_by section.class post placement values section (unwrap_or (base_in placement section.name) 0)

-- the bytes of the section of a name at its place
unfoldable pub linked : List NormalSection → List Placed → ValueList → List ℕ → List ℕ
linked post placement values name = linked_section post placement values (section_named post name)
