-- What a placed section becomes in memory: the kind of its bytes, and the symbols of what stands in it.
use Rattle.std.specs.Prelude.{ℕ, true, false}
use Rattle.symbol_table.specs.declared.symbols.Symbol.{Symbol}
use Rattle.image_memory.specs.declared.types.Kind.{Kind}
use Rattle.image_memory.specs.declared.types.Kind.TheVariants as kinds
use Rattle.i386_reloc.specs.declared.types.Class.{Class}
use Rattle.i386_reloc.specs.declared.types.Class.TheVariants.{Zero, Code, Writable, Strings, ReadOnly}
use Rattle.i386_reloc.specs.declared.types.ObjectSymbol.{ObjectSymbol}
use Rattle.i386_reloc.specs.declared.types.NormalSection.{NormalSection}
use Rattle.i386_reloc.specs.Normal.{function_name}
use Rattle.link_post.specs.Linked.{beyond}

-- what the memory of a section may be used for, by its class
abbrev pub kind_of_class : Class → Kind
kind_of_class Code = kinds.Code
kind_of_class ReadOnly = kinds.ReadOnly
kind_of_class Strings = kinds.ReadOnly
kind_of_class Writable = kinds.Writable
kind_of_class Zero = kinds.Writable

-- the symbol of the function that a section at a base is
abbrev pub function_symbol : NormalSection → ℕ → Symbol
function_symbol section base =
    record { address = base; function = true; global = section.global; name = function_name section }

-- the symbol of a variable of a section at a base
abbrev pub variable_symbol : ℕ → ObjectSymbol → Symbol
variable_symbol base object =
    record { address = beyond base object.value; function = false; global = object.global; name = object.name }
