use Rattle.std.proofs.Common.{arith}
use Rattle.std.proofs.lemmas.Grind.{common_steps}
use Rattle.std.proofs.lemmas.List.Elements.{filter_map-append}
use Rattle.symbol_solve.proofs.choices.demands.Goals as goal

pub loop-interior-preserved : goal.loop-interior-preserved
loop-interior-preserved c = grind (arith, common_steps, filter_map-append)
