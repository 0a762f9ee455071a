use Rattle.std.proofs.Common.{◌≡◌, sym, map, subst}
use Rattle.update_stack.specs.AbstractMachine.{AbstractMachine, shown_update}
use Rattle.update_stack.proofs.HoldsLaws.{shown_again}
use Rattle.update_stack.proofs.PhaseLaws.{machine_seen}
use Rattle.update_stack.proofs.system.System.updates.Goals as goal

pub returns : goal.returns
returns g c =
    let P : AbstractMachine → Type 0 = λ k. c.self.inside.updates ≡ map shown_update k.updates in
    subst P (machine_seen c.self.view_is) (sym (shown_again c.self.inside.updates c.self.inside.kept
    c.self.invariant.paired))
