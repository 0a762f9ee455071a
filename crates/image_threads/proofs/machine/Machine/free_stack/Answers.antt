use Rattle.std.proofs.Common.{◌+◌, ◌≤◌, ◌≡◌, false, IfSome, Contains, subst}
use Rattle.ks_base.specs.declared.places.Range.{Range}
use Rattle.image_threads.specs.Program.{Program}
use Rattle.image_threads.specs.Spawning.{is_taken}
use Rattle.image_threads.specs.laws.StackLaws.{stack_listed}
use Rattle.image_threads.proofs.StackLaws.{stack_has, stack_free, all_tall}
use Rattle.image_threads.proofs.machine.Machine.free_stack.Goals as goal

pub returns-clause-free : goal.returns-clause-free
returns-clause-free g c =
    let P : Program → Type 0 = λ p. IfSome c.free_among.result (λ stack. is_taken p.threads stack ≡ false) in
    subst P c.self.view_is
    (stack_free c.self.inside.stacks c.self.inside.threads _ (rw c.as_slice.ensures at c.free_among.ensures))

pub returns-clause-listed : goal.returns-clause-listed
returns-clause-listed g c =
    let P : Program → Type 0 = λ p. IfSome c.free_among.result (Contains p.stacks) in
    subst P c.self.view_is
    (stack_listed c.self.inside.stacks c.self.inside.threads _ (rw c.as_slice.ensures at c.free_among.ensures))

pub returns-clause-tall : goal.returns-clause-tall
returns-clause-tall g c =
    stack_has (λ (stack : Range). stack.low + 32 ≤ stack.high) c.self.inside.stacks _
    (stack_listed c.self.inside.stacks c.self.inside.threads _ (rw c.as_slice.ensures at c.free_among.ensures))
    (all_tall c.self.inside.stacks c.self.invariant.bounds)
