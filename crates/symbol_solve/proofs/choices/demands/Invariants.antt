use Rattle.std.proofs.Common.{◌≡◌, take}
use Rattle.std.specs.List.{filter_map}
use Rattle.symbol_solve.specs.inside.Numbers.{demand_of}
use Rattle.symbol_solve.proofs.choices.demands.Given as goal

abbrev pub invariant-loop-interior : goal.invariant-loop-interior
invariant-loop-interior l = l.list ≡ filter_map (demand_of l.object l.numbers) (take l.interior-index l.interiors)
