use Rattle.std.proofs.Common.{subst}
use Rattle.update_stack.specs.Phases.{Phased, StandsIn}
use Rattle.update_stack.specs.Stacked.{IsBuilt}
use Rattle.update_stack.proofs.PhaseLaws.{machine_seen}
use Rattle.update_stack.proofs.system.System.machine.Goals as goal

pub returns-clause-stands : goal.returns-clause-stands
returns-clause-stands g c =
    let P : Phased → Type 0 = λ seen. StandsIn seen.phase c.self.inside.machine seen.machine in
    subst P c.self.view_is c.self.invariant.stands

pub returns-clause-built : goal.returns-clause-built
returns-clause-built g c = subst IsBuilt (machine_seen c.self.view_is) c.self.invariant.built
