-- Why objects can't be linked to an image, in the order in which it is looked for.
use Rattle.std.specs.Prelude.{Bool, not, ◌&&◌, nat_lt, if◌then◌else◌, ℕ, List, [], ◌∷◌, ◌++◌, length}
use Rattle.std.specs.Prelude.{Option, Some, None}
use Rattle.std.specs.Option.{option_map, option_or}
use Rattle.std.specs.List.{flat_map, find, list_any}
use Rattle.ks_base.specs.declared.refusals.Refusal.{Refusal}
use Rattle.ks_base.specs.declared.refusals.Refusal.TheVariants.{LinkTooLarge, DoubleGlobal, Undefined}
use Rattle.ks_base.specs.declared.refusals.LinkLimit.TheVariants as limits
use Rattle.symbol_table.specs.declared.symbols.Symbol.{Symbol}
use Rattle.symbol_table.specs.Symbols.{is_global_named}
use Rattle.i386_reloc.specs.declared.types.Target.{Target}
use Rattle.i386_reloc.specs.declared.types.Target.TheVariants.{Section, Outside, Text}
use Rattle.i386_reloc.specs.declared.types.Ref.{Ref}
use Rattle.i386_reloc.specs.declared.types.NormalSection.{NormalSection}
use Rattle.image_link.specs.Places.{laid_out, total_length}
use Rattle.image_link.specs.Symbols.{all_symbols}

-- a refusal, where what it says holds
abbrev pub refused_where : Bool → Refusal → Option Refusal
refused_where holds refusal = if holds then Some refusal else None

-- The regions, and the symbols, may be no more than an image may have.
abbrev pub size_fault : List (List NormalSection) → Option Refusal
size_fault objects = refused_where (nat_lt 16777216 (total_length objects)) (LinkTooLarge limits.Bytes)

abbrev pub count_fault : List Symbol → Option Refusal
count_fault symbols = refused_where (nat_lt 65536 (length symbols)) (LinkTooLarge limits.Symbols)

-- the name of the first global symbol whose name an earlier global one has, too, where some symbols stand before
abbrev pub is_double : List Symbol → Symbol → Bool
is_double earlier symbol = symbol.global && list_any (is_global_named symbol.name) earlier

unfoldable pub double_after : List Symbol → List Symbol → Option (List ℕ)
double_after earlier [] = None
double_after earlier (symbol ∷ symbols) =
    if is_double earlier symbol then Some symbol.name else double_after (earlier ++ symbol ∷ []) symbols

abbrev pub double_fault : List Symbol → Option Refusal
double_fault symbols = option_map DoubleGlobal (double_after [] symbols)

-- the outside names to which references go, section by section and in each by offset
abbrev pub outside_in : Target → List (List ℕ)
outside_in (Outside name) = name ∷ []
outside_in (Section name) = []
outside_in (Text section offset text) = []

abbrev pub outside_of : Ref → List (List ℕ)
outside_of r = outside_in r.target

abbrev pub outside_names_of : NormalSection → List (List ℕ)
outside_names_of section = flat_map outside_of section.refs

abbrev pub outside_names : List (List NormalSection) → List (List ℕ)
outside_names objects = flat_map (flat_map outside_names_of) objects

-- the first of them that no global symbol has
abbrev pub is_undefined : List Symbol → List ℕ → Bool
is_undefined symbols name = not (list_any (is_global_named name) symbols)

abbrev pub undefined_fault : List Symbol → List (List NormalSection) → Option Refusal
undefined_fault symbols objects = option_map Undefined (find (is_undefined symbols) (outside_names objects))

-- the first of these that there is
abbrev pub symbol_fault : List Symbol → List (List NormalSection) → Option Refusal
symbol_fault symbols objects =
    option_or (count_fault symbols) (option_or (double_fault symbols) (undefined_fault symbols objects))

unfoldable pub link_fault : List (List NormalSection) → Option Refusal
link_fault objects = option_or (size_fault objects) (symbol_fault (all_symbols (laid_out objects)) objects)
