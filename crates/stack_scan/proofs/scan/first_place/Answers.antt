use Rattle.std.proofs.Common.{arith}
use Rattle.stack_scan.proofs.StackLaws.{stack_readable}
use Rattle.stack_scan.proofs.scan.first_place.Goals as goal

pub first_on_stack-requires-clause-readable : goal.first_on_stack-requires-clause-readable
first_on_stack-requires-clause-readable g c =
    let space = c.args.space.now in
    let thread = c.args.thread.now in
    let stack = c.requires.stack in
    let low = c.requires.low in
    let high = c.requires.high in
    let valid = g.met.S.Space.valid space in
    let even = stack.low in
    stack_readable
    (g.S.Space.contents space).pieces thread.stack _ _ valid.placed.ascend stack (omega arith) (omega arith)
