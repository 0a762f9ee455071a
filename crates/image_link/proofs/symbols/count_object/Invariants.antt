use Rattle.std.proofs.Common.{◌≡◌, ◌+◌, length, min, take}
use Rattle.std.specs.List.{flat_map, zip}
use Rattle.image_link.specs.Symbols.{symbols_of_part}
use Rattle.image_link.proofs.symbols.count_object.Given as goal

abbrev pub invariant-loop-section : goal.invariant-loop-section
invariant-loop-section l =
    l.counted
    ≡ min (l.fn.count + length (flat_map symbols_of_part (take (length l.yielded) (zip l.fn.laid.object l.fn.laid.places)))) 65537
