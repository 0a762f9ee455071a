-- The lines that show which functions of a running program an object's code is, and where what it refers to is.
use Rattle.std.specs.Prelude.{ℕ, List, [], ◌∷◌, ◌++◌, codes}
use Rattle.std.specs.List.{flat_map}
use Rattle.ks_base.specs.Text.{hex_text, shown_name}
use Rattle.i386_reloc.specs.declared.types.NormalSection.{NormalSection}
use Rattle.i386_reloc.specs.Normal.{section_named}
use Rattle.symbol_table.specs.declared.values.Unknown.{Unknown}
use Rattle.symbol_table.specs.declared.values.Unknown.TheVariants.{Code, Data, Outside}
use Rattle.symbol_table.specs.Unknowns.{address_in}
use Rattle.symbol_solve.specs.Solve.{Value}
use Rattle.ksplice_calls.specs.Difference.{function_of}

-- what is unknown: a function of the object, by the function's name; a data section; or an outside name
abbrev pub unknown_text : List NormalSection → Unknown → List ℕ
unknown_text object (Code section) = codes "code " ++ shown_name (function_of (section_named object section))
unknown_text object (Data section) = codes "data " ++ shown_name section
unknown_text object (Outside name) = codes "outside " ++ shown_name name

-- the line of a value: what it is of, and where that is
unfoldable pub value_line : List NormalSection → Value → List ℕ
value_line object value = unknown_text object value.0 ++ 32 ∷ hex_text (address_in value.1) ++ 10 ∷ []

-- the lines of values, in their order
unfoldable pub value_lines : List NormalSection → List Value → List ℕ
value_lines object values = flat_map (value_line object) values
