use Rattle.std.proofs.Common.{◌≡◌, take}
use Rattle.std.specs.List.{flat_map}
use Rattle.image_link.specs.Symbols.{symbols_of}
use Rattle.image_link.proofs.symbols.all_symbols.Given as goal

abbrev pub invariant-loop-object : goal.invariant-loop-object
invariant-loop-object l = l.symbols ≡ flat_map symbols_of (take l.object-index l.laid)
