-- What was saved so far, and then what is to be saved of the pieces behind.
use Rattle.std.proofs.Common.{◌≡◌, ◌++◌, drop}
use Rattle.saved_data.specs.Saved.{writable_pieces}
use Rattle.saved_data.proofs.copying.save.Given as goal

abbrev pub invariant-loop-i : goal.invariant-loop-i
invariant-loop-i g l =
    l.saved ++ writable_pieces (drop l.i (g.S.Space.contents l.space).pieces)
    ≡ writable_pieces (g.S.Space.contents l.space).pieces
