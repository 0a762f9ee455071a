-- What holds of each loaded section of an object that breaks no rule: it has its bytes, and its symbols have short names.
use Rattle.std.specs.Prelude.{◌≡◌, ◌≢◌, ◌≤◌, ◌<◌, ℕ, false, List, length, All}
use Rattle.std.specs.List.{list_any, AllByRecursion}
use Rattle.elf32_object.specs.Fields.{is_zero}
use Rattle.i386_reloc.specs.declared.types.Class.TheVariants.{Zero}
use Rattle.i386_reloc.specs.declared.types.ObjectSymbol.{ObjectSymbol}
use Rattle.i386_reloc.specs.declared.types.NormalSection.{NormalSection}
use Rattle.i386_reloc.specs.Normal.{function_name}

-- a section has some bytes, and as many as its size where the file holds them
pub record IsWhole (section : NormalSection) : Type 0 where
  pub some : 0 < section.size
  pub all : section.class ≢ Zero → length section.bytes ≡ section.size

abbrev pub AreWhole : List NormalSection → Type 0
AreWhole sections = AllByRecursion IsWhole sections

-- a name has at most 4,096 bytes, and no zero among them
pub record IsSymbolName (name : List ℕ) : Type 0 where
  pub short : length name ≤ 4096
  pub no_zero : list_any is_zero name ≡ false

-- the names of the function that a section is, and of its variables
pub record HasSymbolNames (section : NormalSection) : Type 0 where
  pub function : IsSymbolName (function_name section)
  pub variables : All (λ (object : ObjectSymbol). IsSymbolName object.name) section.objects
