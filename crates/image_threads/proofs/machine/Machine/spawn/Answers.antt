use Rattle.std.proofs.Common.{sym, subst}
use Rattle.image_threads.specs.Program.{Program}
use Rattle.image_threads.specs.Spawning.{AreStacks}
use Rattle.image_threads.proofs.StackLaws.{stacks_after_write}
use Rattle.image_threads.proofs.machine.Machine.spawn.Goals as goal

pub returns-in_ok-start-in-Some-clause-stacks : goal.returns-in_ok-start-in-Some-clause-stacks
returns-in_ok-start-in-Some-clause-stacks g c =
    let P : Program → Type 0 = λ p. AreStacks p.contents.pieces p.stacks in
    subst P (sym c.in_ok-start-in-Some.ensures.started)
    (stacks_after_write _ _ c.args.self.now.contents.pieces c.args.self.now.stacks c.requires)
