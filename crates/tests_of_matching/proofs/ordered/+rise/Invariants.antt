use Rattle.std.proofs.Common.{length}
use Rattle.tests_of_matching.proofs.ordered.+rise.Given as goal

abbrev pub decreases-rise : goal.decreases-rise
decreases-rise l = length l.numbers.now
