use Rattle.std.proofs.Common.{◌≡◌, length, min, take}
use Rattle.std.specs.List.{flat_map}
use Rattle.image_link.specs.Symbols.{symbols_of}
use Rattle.image_link.proofs.symbols.count_symbols.Given as goal

abbrev pub invariant-loop-object : goal.invariant-loop-object
invariant-loop-object l = l.count ≡ min (length (flat_map symbols_of (take l.object-index l.laid))) 65537
