-- The symbols of a linked image: of each code section its function, of each other section its variables.
use Rattle.std.specs.Prelude.{ℕ, ◌==◌, nat_lt, if◌then◌else◌, List, [], ◌∷◌, length}
use Rattle.std.specs.List.{flat_map}
use Rattle.symbol_table.specs.declared.symbols.Symbol.{Symbol}
use Rattle.i386_reloc.specs.declared.types.ObjectSymbol.{ObjectSymbol}
use Rattle.i386_reloc.specs.declared.types.NormalSection.{NormalSection}
use Rattle.i386_reloc.specs.Classes.{is_code_class}
use Rattle.link_post.specs.declared.types.Placed.{Placed}
use Rattle.link_post.specs.Sections.{function_symbol, variable_symbol}
use Rattle.image_link.specs.Places.{Laid, at_places}

-- a symbol, unless its name is empty
abbrev pub if_named : Symbol → List Symbol
if_named symbol = if length symbol.name == 0 then [] else symbol ∷ []

-- the symbol of a variable, where it begins inside its section
abbrev pub variable_in : NormalSection → ℕ → ObjectSymbol → List Symbol
variable_in section base object =
    if nat_lt object.value section.size then if_named (variable_symbol base object) else []

-- the symbols of a section at a base
abbrev pub symbols_at : NormalSection → ℕ → List Symbol
symbols_at section base =
    if is_code_class section.class then if_named (function_symbol section base)
    else flat_map (variable_in section base) section.objects

abbrev pub symbols_of_part : NormalSection × Placed → List Symbol
symbols_of_part part = symbols_at part.0 (part.1).base

abbrev pub symbols_of : Laid → List Symbol
symbols_of laid = flat_map symbols_of_part (at_places laid)

-- the symbols of all objects, in the order of the objects and of their sections
unfoldable pub all_symbols : List Laid → List Symbol
all_symbols laid = flat_map symbols_of laid
