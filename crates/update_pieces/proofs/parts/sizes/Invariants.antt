use Rattle.std.proofs.Common.{◌≡◌, map, take}
use Rattle.update_pieces.specs.Parts.{size_of}
use Rattle.update_pieces.proofs.parts.sizes.Given as goal

abbrev pub invariant-loop-part : goal.invariant-loop-part
invariant-loop-part l = l.sizes.items ≡ map size_of (take l.part-index l.parts)
