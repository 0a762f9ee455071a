use Rattle.std.proofs.Common.{◌≡◌, rules, ap, Contains}
use Rattle.image_memory.specs.Contents.{Contents}
use Rattle.tests_of_machine.proofs.StackOfThread.{stack_of_thread}
use Rattle.tests_of_machine.proofs.threads.standing.Goals as goal

pub stands-requires : goal.stands-requires
stands-requires c runs =
    let machine = c.args.machine.now in
    let same : c.space.result.now.pieces.items ≡ machine.contents.pieces =
    ap (λ (contents : Contents). contents.pieces) c.space.ensures.contents in
    let there : Contains machine.threads c.in_ok-thread.thread.now = (c.args.number, search rules, search rules) in
    rw same (stack_of_thread machine.contents.pieces
    machine.stacks machine.threads c.in_ok-thread.thread.now c.threads.ensures.placed c.requires there)
