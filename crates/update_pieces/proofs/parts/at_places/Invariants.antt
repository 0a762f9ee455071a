use Rattle.std.proofs.Common.{◌≡◌, ◌++◌, length, drop}
use Rattle.update_pieces.specs.Parts.{at_places}
use Rattle.update_pieces.proofs.parts.at_places.Given as goal

-- the sections so far, and then the others at their places
abbrev pub invariant-loop-part : goal.invariant-loop-part
invariant-loop-part l =
    l.placed.items ++ at_places (drop (length l.yielded) l.parts) (drop (length l.yielded) l.placement)
    ≡ at_places l.parts l.placement
