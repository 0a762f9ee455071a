use Rattle.image_threads.specs.Spawning.{AreStacks}
use Rattle.tests_of_machine.proofs.threads.runs_as_often.Given as goal

abbrev pub invariant-loop-number : goal.invariant-loop-number
invariant-loop-number l = AreStacks l.machine.contents.pieces l.machine.stacks
