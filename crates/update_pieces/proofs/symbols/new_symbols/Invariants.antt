use Rattle.std.proofs.Common.{◌≡◌, take}
use Rattle.std.specs.List.{flat_map}
use Rattle.update_pieces.specs.NewSymbols.{symbols_of}
use Rattle.update_pieces.proofs.symbols.new_symbols.Given as goal

abbrev pub invariant-loop-part : goal.invariant-loop-part
invariant-loop-part l = l.symbols ≡ flat_map symbols_of (take l.part-index l.part-items)
