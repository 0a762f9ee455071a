use Rattle.std.proofs.Common.{◌≡◌, List, Some, refl, sym, subst, ap, ◌∙◌}
use Rattle.ia32_step.specs.declared.types.Thread.{Thread}
use Rattle.image_threads.specs.Program.{WellPlaced, running_at}
use Rattle.image_threads.proofs.PlacedLaws.{placed_set}
use Rattle.image_threads.proofs.machine.Machine.jump_thread.Goals as goal

pub invariant_of-self : goal.invariant_of-self
invariant_of-self g c =
    let before = c.in-Some.running in
    let after : Thread = record before { pc = c.args.pc } in
    let W : List Thread → Type 0 = λ threads. WellPlaced c.self.inside.stacks threads in
    let was : running_at c.self.inside.threads after.number ≡ Some before =
    ap (running_at c.self.inside.threads) c.in-Some.ensures.number ∙ sym c.in-Some.ensures.thread in
    subst W (sym c.send.ensures)
    (placed_set c.self.inside.stacks c.self.inside.threads after.number before after c.self.invariant was refl)
