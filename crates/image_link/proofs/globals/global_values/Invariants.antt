use Rattle.std.proofs.Common.{◌≡◌, [], drop}
use Rattle.image_link.specs.inside.Globals.{with_all}
use Rattle.image_link.proofs.globals.global_values.Given as goal

abbrev pub invariant-loop-symbol : goal.invariant-loop-symbol
invariant-loop-symbol l = with_all [] l.symbols ≡ with_all l.values.entries (drop l.symbol-index l.symbols)
