use Rattle.std.proofs.Common.{◌+◌, ◌≤◌}
use Rattle.std.proofs.Common.{◌≡◌, [], ◌∷◌, ◌++◌, Ok, sym, arith}
use Rattle.std.proofs.lemmas.Result.{err_from_is_err_and}
use Rattle.image_file.specs.Fields.{items_at}
use Rattle.image_file.specs.Rules.{own_range}
use Rattle.image_file.specs.Reading.{stack_at, stack_width}
use Rattle.std.proofs.Common.{length-append, IsTrue}
use Rattle.std.proofs.lemmas.List.Elements.{All-push}
use Rattle.ks_base.specs.declared.places.Range.{Range}
use Rattle.image_file.specs.Keeps.{keeps_stack}
use Rattle.image_file.proofs.Items.{goes_on, ends, is_done}
use Rattle.image_file.proofs.Ends.{end_of-push, total_of-push, Ascends-push}
use Rattle.image_file.proofs.stacks.stacks_of.Goals as goal

pub returns-in_err-stack-clause-exact : goal.returns-in_err-stack-clause-exact
returns-in_err-stack-clause-exact c =
    let p = err_from_is_err_and c.from_residual.result c.from_residual.ensures.1 in
    let inv = c.loop.invariant in
    let item = stack_at c.args.bytes.now c.args.arena c.args.pieces.now in
    rw (p.1, p.2) (ends item stack_width c.args.count c.loop.counter c.loop.stacks c.loop.offset
    c.in_err-stack.field-0.0
    (items_at c.args.count item stack_width [] c.args.first) c.loop-test.true
    (λ other. rw (← inv.floor_is, ← inv.total_is) (c.in_err-stack.ensures.exact other)) inv.reads)

pub loop-preserved : goal.loop-preserved
loop-preserved c =
    let stack = c.in_ok-stack.stack in
    let inv = c.loop.invariant in
    let item = stack_at c.args.bytes.now c.args.arena c.args.pieces.now in
    let e : c.push.new.self ≡ c.loop.stacks ++ stack ∷ [] = c.in_ok-push.ensures.ok in
    let read : item c.loop.stacks c.loop.offset ≡ Ok stack =
    rw (← inv.floor_is, ← inv.total_is) c.in_ok-stack.ensures.exact in
    let full : stack.low + 32 ≤ stack.high = c.in_ok-stack.ensures.some in
    let sum = total_of-push own_range c.loop.stacks stack in
    rw e (record {
      reads = goes_on item stack_width c.args.count c.loop.counter c.loop.stacks c.loop.offset stack
          (items_at c.args.count item stack_width [] c.args.first) c.loop-test.true read inv.reads;
      floor_is = sym (end_of-push own_range 0 c.loop.stacks stack);
      total_is = omega arith;
      small = c.in_ok-stack.ensures.sum;
      place = omega arith;
      count_is = omega (arith, length-append c.loop.stacks (stack ∷ []));
      kept = All-push (λ (x : Range). IsTrue (keeps_stack c.args.arena c.args.pieces.now x)) c.loop.stacks stack
          inv.kept c.in_ok-stack.ensures.kept;
      ascend = Ascends-push own_range 0 c.loop.stacks stack inv.ascend (rw (← inv.floor_is) c.in_ok-stack.ensures.above)
          (omega arith);
    })

pub returns-clause-exact : goal.returns-clause-exact
returns-clause-exact c =
    let item = stack_at c.args.bytes.now c.args.arena c.args.pieces.now in
    is_done item stack_width c.args.count c.loop.counter c.loop.stacks c.loop.offset
    (items_at c.args.count item stack_width [] c.args.first) c.loop-test.false c.loop.invariant.reads
