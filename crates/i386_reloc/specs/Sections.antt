-- The loaded sections of an object file, or why it is refused.
use Rattle.std.specs.Prelude.{ℕ, List, Option, Some, None, Result, Ok, Err}
use Rattle.ks_base.specs.declared.refusals.Refusal.{Refusal}
use Rattle.elf32_object.specs.declared.types.ObjectFault.{ObjectFault}
use Rattle.elf32_object.specs.Rules.{object_fault}
use Rattle.i386_reloc.specs.declared.types.NormalSection.{NormalSection}
use Rattle.i386_reloc.specs.Normal.{loaded_sections}
use Rattle.i386_reloc.specs.Refused.{normal_fault, refusal_of_fault}

abbrev pub sections_unless : Option ObjectFault → Option Refusal → List NormalSection
    → Result (List NormalSection) Refusal
sections_unless (Some fault) refusal sections = Err (refusal_of_fault fault)
sections_unless None (Some refusal) sections = Err refusal
sections_unless None None sections = Ok sections

-- the loaded sections of an object file, or the first rule that it breaks: one of the file's form, else one of its
-- sections
unfoldable pub sections_of : List ℕ → Result (List NormalSection) Refusal
sections_of bytes = sections_unless (object_fault bytes) (normal_fault bytes) (loaded_sections bytes)
