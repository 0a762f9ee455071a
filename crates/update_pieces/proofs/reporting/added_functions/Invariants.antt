use Rattle.std.proofs.Common.{◌≡◌, take}
use Rattle.std.specs.List.{filter_map}
use Rattle.update_pieces.specs.Reports.{added_of}
use Rattle.update_pieces.proofs.reporting.added_functions.Given as goal

abbrev pub invariant-loop-part : goal.invariant-loop-part
invariant-loop-part l = l.added ≡ filter_map added_of (take l.part-index l.placed)
