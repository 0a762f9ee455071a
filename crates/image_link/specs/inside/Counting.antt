-- Which variables are counted as symbols.
use Rattle.std.specs.Prelude.{◌==◌, Bool, ◌&&◌, not, nat_lt, length}
use Rattle.i386_reloc.specs.declared.types.ObjectSymbol.{ObjectSymbol}
use Rattle.i386_reloc.specs.declared.types.NormalSection.{NormalSection}

-- whether a variable of a section begins inside it and has a name
abbrev pub is_listed : NormalSection → ObjectSymbol → Bool
is_listed section object = nat_lt object.value section.size && not (length object.name == 0)
