-- What is kept of the instructions of a section.
use Rattle.std.specs.Prelude.{◌≡◌, min}
use Rattle.std.specs.List.{reduce}
use Rattle.i386_reloc.specs.declared.types.NormalSection.{NormalSection}
use Rattle.match_instructions.specs.declared.pre_code.PreList.{PreList}
use Rattle.match_instructions.specs.Instructions.{end_of}
use Rattle.match_instructions.specs.PreCode.{pre_code}
use Rattle.match_instructions.specs.Landing.{misplaced_offsets}
use Rattle.match_instructions.specs.Places.{places_of}

-- It is what is kept of all of them: their places, where they end, and the least place of one with a field where none
-- may stand.
pub record IsListOf (section : NormalSection) (list : PreList) : Type 0 where
  pub places : list.places ≡ places_of (pre_code section)
  pub end : list.end ≡ end_of 0 (pre_code section)
  pub misplaced : list.misplaced ≡ reduce min (misplaced_offsets (pre_code section))
