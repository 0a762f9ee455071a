use Rattle.std.proofs.Common.{◌≡◌, List, take}
use Rattle.match_instructions.specs.Instructions.{Instruction}
use Rattle.match_instructions.specs.Landing.{unmet_offsets}
use Rattle.match_instructions.specs.inside.Least.{least}
use Rattle.match_instructions.specs.Places.{places_of}
use Rattle.match_instructions.proofs.landing.unmet_offset.Given as goal

abbrev pub invariant-loop-offset : goal.invariant-loop-offset
invariant-loop-offset l = (code : List Instruction) → l.places ≡ places_of code →
    l.first ≡ least (unmet_offsets code (take l.offset-index l.named))
