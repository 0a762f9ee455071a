use Rattle.std.proofs.Common.{length}
use Rattle.tests_of_matching.proofs.ordered.+stand_in_order.Given as goal

abbrev pub decreases-stand_in_order : goal.decreases-stand_in_order
decreases-stand_in_order l = length l.choices.now
