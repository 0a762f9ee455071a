-- The symbols that an update adds: of each function that it adds, and of each variable of new data.
use Rattle.std.specs.Prelude.{ℕ, List, [], ◌∷◌, map}
use Rattle.std.specs.List.{flat_map}
use Rattle.symbol_table.specs.declared.symbols.Symbol.{Symbol}
use Rattle.i386_reloc.specs.declared.types.NormalSection.{NormalSection}
use Rattle.link_post.specs.declared.types.Placed.{Placed}
use Rattle.link_post.specs.Sections.{function_symbol, variable_symbol}
use Rattle.extract_post.specs.declared.role.Role.{Role}
use Rattle.extract_post.specs.declared.role.Role.TheVariants.{Changed, Added, Carried, NewData}
use Rattle.update_pieces.specs.Parts.{NewPart, AtPlace, at_places}

-- what a section that is placed adds, by what the update does with it
abbrev pub symbols_by : Role → NormalSection → ℕ → List Symbol
symbols_by Added section base = function_symbol section base ∷ []
symbols_by NewData section base = map (variable_symbol base) section.objects
symbols_by Changed section base = []
symbols_by Carried section base = []

abbrev pub symbols_of : AtPlace → List Symbol
symbols_of part = symbols_by part.role part.section part.base

-- all symbols, in the order of the sections
abbrev pub new_symbols : List NewPart → List Placed → List Symbol
new_symbols parts placement = flat_map symbols_of (at_places parts placement)
