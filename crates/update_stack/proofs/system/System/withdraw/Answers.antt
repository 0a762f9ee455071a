use Rattle.update_stack.proofs.UndoneLaws.{IsNewestAt, undo_clear}
use Rattle.update_stack.proofs.system.System.withdraw.Goals as goal

pub take_back_at-requires-clause-place : goal.take_back_at-requires-clause-place
take_back_at-requires-clause-place g c = c.in-Ok.ensures.0

pub take_back_at-requires-clause-uncovered : goal.take_back_at-requires-clause-uncovered
take_back_at-requires-clause-uncovered g c =
    let is : IsNewestAt c.args.self.now.machine c.in-Ok.at = record {
      built = c.machine-program.ensures.built;
      less = c.in-Ok.ensures.0;
      newest = c.in-Ok.ensures.1;
    } in
    undo_clear c.args.self.now.machine c.in-Ok.at is
