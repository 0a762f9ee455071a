use Rattle.stack_scan.specs.inside.Words.{NoneBetween}
use Rattle.stack_scan.proofs.words.first_between.Given as goal

abbrev pub invariant-loop-index : goal.invariant-loop-index
invariant-loop-index l = NoneBetween l.targets l.words l.start l.index
