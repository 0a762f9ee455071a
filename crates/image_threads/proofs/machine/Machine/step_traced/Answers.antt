use Rattle.std.proofs.Common.{sym, subst}
use Rattle.image_threads.specs.Program.{Program}
use Rattle.image_threads.specs.Spawning.{AreStacks}
use Rattle.image_threads.proofs.StackLaws.{stacks_by_shape}
use Rattle.image_threads.proofs.machine.Machine.step_traced.Goals as goal

pub returns-clause-stacks : goal.returns-clause-stacks
returns-clause-stacks g c = λ h.
    let P : Program → Type 0 = λ p. AreStacks p.contents.pieces p.stacks in
    stacks_by_shape
    (g.S.Space.contents c.self.inside.space).pieces _ c.self.inside.stacks c.step.ensures.shapes
    (subst P (sym c.self.view_is) h)
