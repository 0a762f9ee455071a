use Rattle.std.proofs.Common.{◌≡◌, List, length, Contains, false, sym, subst}
use Rattle.ia32_step.specs.declared.types.Thread.{Thread}
use Rattle.image_threads.specs.Program.{Program, WellPlaced}
use Rattle.image_threads.specs.Spawning.{is_taken, first_thread}
use Rattle.image_threads.proofs.PlacedLaws.{placed_on}
use Rattle.image_threads.proofs.machine.Machine.start.Goals as goal

pub invariant_of-self-2 : goal.invariant_of-self-2
invariant_of-self-2 g c =
    let S : Program → Type 0 = λ p. Contains p.stacks c.args.stack in
    let F : Program → Type 0 = λ p. is_taken p.threads c.args.stack ≡ false in
    let W : List Thread → Type 0 = λ threads. WellPlaced c.self.inside.stacks threads in
    let thread = first_thread (length c.self.inside.threads) c.args.stack c.args.pc in
    subst W (sym c.in_ok-number.ensures.ok)
    (placed_on c.self.inside.stacks c.self.inside.threads thread c.self.invariant
    (subst S (sym c.self.view_is) c.requires.listed)
    (subst F (sym c.self.view_is) c.requires.free))
