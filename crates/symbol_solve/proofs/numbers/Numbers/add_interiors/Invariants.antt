use Rattle.std.proofs.Common.{All, take}
use Rattle.symbol_solve.specs.inside.Numbers.{Grows, IsInteriorNumbered}
use Rattle.symbol_solve.proofs.numbers.Numbers.add_interiors.Given as goal

abbrev pub invariant-loop-interior : goal.invariant-loop-interior
invariant-loop-interior l = record {
  grows : Grows l.initial.self l.self;
  numbered : All (IsInteriorNumbered l.object l.self) (take l.interior-index l.interiors);
}
