use Rattle.std.proofs.Common.{◌≡◌, take}
use Rattle.std.specs.List.{filter_map}
use Rattle.update_pieces.specs.Reports.{replaced_of}
use Rattle.update_pieces.proofs.reporting.replaced_functions.Given as goal

abbrev pub invariant-loop-part : goal.invariant-loop-part
invariant-loop-part l = l.replaced ≡ filter_map (replaced_of l.olds) (take l.part-index l.placed)
