-- What the references of new code go to in the running program: the values that the old object gave, and for what it
-- left open the addresses that the running program lists under the name.
use Rattle.std.specs.Prelude.{◌≡◌, ℕ, ◌+◌, ◌-◌, ◌%◌, ◌^◌, Bool, ◌&&◌, is_some, if◌then◌else◌, List, [], ◌∷◌, ◌++◌}
use Rattle.std.specs.Prelude.{Option, Some, None, IsSome, Result, Ok, Err}
use Rattle.std.specs.List.{slice_get, AllByRecursion}
use Rattle.ks_base.specs.declared.refusals.Refusal.{Refusal}
use Rattle.ks_base.specs.declared.refusals.Refusal.TheVariants.{Unresolved}
use Rattle.symbol_table.specs.declared.symbols.Symbol.{Symbol}
use Rattle.symbol_table.specs.declared.values.Unknown.{Unknown}
use Rattle.symbol_table.specs.declared.values.Unknown.TheVariants as unknown
use Rattle.symbol_table.specs.declared.values.Solved.{Solved}
use Rattle.symbol_table.specs.declared.values.Solved.TheVariants.{Address}
use Rattle.symbol_table.specs.declared.symbols.Missing.TheVariants as missing
use Rattle.symbol_table.specs.Symbols.{only_address, global_addresses, data_addresses}
use Rattle.symbol_table.specs.Unknowns.{same_unknown}
use Rattle.i386_reloc.specs.declared.types.Target.{Target}
use Rattle.i386_reloc.specs.declared.types.Target.TheVariants.{Section, Outside, Text}
use Rattle.i386_reloc.specs.declared.types.Ref.{Ref}
use Rattle.i386_reloc.specs.declared.types.ObjectSymbol.{ObjectSymbol}
use Rattle.i386_reloc.specs.declared.types.NormalSection.{NormalSection}
use Rattle.i386_reloc.specs.Normal.{section_named}
use Rattle.i386_reloc.specs.Reaches.{is_data_class, is_in}
use Rattle.i386_reloc.specs.Places.{references_in}

-- values of unknowns, as a map of them is seen
abbrev pub ValueList : Type 0
ValueList = List (Unknown × Solved)

-- what an unknown came to; the values stand in the order in which they were found
abbrev pub solved_as : ValueList → Unknown → Option Solved
solved_as [] which = None
solved_as (pair ∷ values) which = if same_unknown which pair.0 then Some pair.1 else solved_as values which

-- whether a data section of post is one of pre too
abbrev pub is_kept_data : (pre post : List NormalSection) → List ℕ → Bool
is_kept_data pre post name = is_in is_data_class post name && is_some (section_named pre name)

-- What a reference of post needs a value of: an outside name, or a data section that is in pre. The others go to
-- what post brings with it, or to functions, which all have their homes.
abbrev pub needed_by : (pre post : List NormalSection) → Target → Option Unknown
needed_by pre post (Outside name) = Some (unknown.Outside name)
needed_by pre post (Section name) = if is_kept_data pre post name then Some (unknown.Data name) else None
needed_by pre post (Text section offset text) = None

-- where a section begins in which a variable stands at an address
abbrev pub less : ℕ → Result ℕ Refusal → Result ℕ Refusal
less value (Err refusal) = Err refusal
less value (Ok address) = Ok ((address + (2 ^ 32 - value)) % 2 ^ 32)

abbrev pub first_object : Option NormalSection → Option ObjectSymbol
first_object None = None
first_object (Some section) = slice_get section.objects 0

abbrev pub section_base : List Symbol → List ℕ → Option ObjectSymbol → Result ℕ Refusal
section_base symbols section None = Err (Unresolved section)
section_base symbols section (Some object) =
    less object.value (only_address missing.Unresolved object.name (data_addresses symbols object.name))

-- The address that the running program lists: of an outside name its global symbols; of a data section the data
-- symbols of its first variable in post, less the variable's offset.
abbrev pub listed_as : List NormalSection → List Symbol → Unknown → Result ℕ Refusal
listed_as post symbols (unknown.Outside name) = only_address missing.Unresolved name (global_addresses symbols name)
listed_as post symbols (unknown.Data name) = section_base symbols name (first_object (section_named post name))
listed_as post symbols (unknown.Code name) = Err (Unresolved name)

abbrev pub with_address : ValueList → Unknown → Result ℕ Refusal → Result ValueList Refusal
with_address values which (Err refusal) = Err refusal
with_address values which (Ok address) = Ok (values ++ (which, Address address) ∷ [])

-- the values with that of an unknown, which is looked up where it has none yet
unfoldable pub with_value : List NormalSection → List Symbol → ValueList → Unknown → Result ValueList Refusal
with_value post symbols values which =
    if is_some (solved_as values which) then Ok values else with_address values which (listed_as post symbols which)

-- the values with what a reference needs
abbrev pub with_needed : List NormalSection → List Symbol → ValueList → Option Unknown → Result ValueList Refusal
with_needed post symbols values None = Ok values
with_needed post symbols values (Some which) = with_value post symbols values which

abbrev pub then_resolved : (ValueList → Result ValueList Refusal) → Result ValueList Refusal
    → Result ValueList Refusal
then_resolved rest (Err refusal) = Err refusal
then_resolved rest (Ok values) = rest values

-- the values with those of references, or why the first that lacks one has none
unfoldable pub resolved_by : (pre post : List NormalSection) → List Symbol → List Ref → ValueList
    → Result ValueList Refusal
resolved_by pre post symbols [] values = Ok values
resolved_by pre post symbols (r ∷ rs) values =
    then_resolved (resolved_by pre post symbols rs) (with_needed post symbols values (needed_by pre post r.target))

-- the references that stand in the section of a name
abbrev pub references_of : List NormalSection → List ℕ → List Ref
references_of post name = references_in (section_named post name)

-- the values with those of all references of some sections of post, section by section
unfoldable pub resolved : (pre post : List NormalSection) → List Symbol → List (List ℕ) → ValueList
    → Result ValueList Refusal
resolved pre post symbols [] values = Ok values
resolved pre post symbols (section ∷ sections) values =
    then_resolved (resolved pre post symbols sections)
    (resolved_by pre post symbols (references_of post section) values)

-- the values tell what a reference needs
abbrev pub Tell : ValueList → Option Unknown → Type 0
Tell values None = Unit {0}
Tell values (Some which) = IsSome (solved_as values which)

abbrev pub TellOf : (pre post : List NormalSection) → ValueList → Ref → Type 0
TellOf pre post values r = Tell values (needed_by pre post r.target)

-- Values that were found keep what the earlier ones tell, and tell what each reference of some sections needs.
pub record AreFound (pre post : List NormalSection) (sections : List (List ℕ)) (earlier found : ValueList)
    : Type 0 where
  pub kept : (which : Unknown) (solved : Solved) → solved_as earlier which ≡ Some solved
      → solved_as found which ≡ Some solved
  pub told : AllByRecursion (λ name. AllByRecursion (TellOf pre post found) (references_of post name)) sections
