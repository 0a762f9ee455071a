use Rattle.std.proofs.lemmas.Result.{err_from_is_err_and}
use Rattle.update_stack.proofs.UndoneLaws.{IsNewestAt, undo_none, undo_busy, undo_clear, undo_done}
use Rattle.update_stack.proofs.system.System.undo.Goals as goal

pub returns-in_err-at-clause-answered : goal.returns-in_err-at-clause-answered
returns-in_err-at-clause-answered g c =
    let p = err_from_is_err_and c.from_residual.result c.from_residual.ensures.1 in
    rw (p.1, p.2) (undo_none c.args.self.now.machine _ c.in_err-at.ensures.0 c.in_err-at.ensures.1)

pub returns-in_err-check_threads_in-clause-answered : goal.returns-in_err-check_threads_in-clause-answered
returns-in_err-check_threads_in-clause-answered g c =
    let is : IsNewestAt c.args.self.now.machine c.in_ok-at.at = record {
      built = c.machine-program.ensures.built;
      less = c.in_ok-at.ensures.0;
      newest = c.in_ok-at.ensures.1;
    } in
    let p = err_from_is_err_and c.from_residual-in_err-check_threads_in.result
    c.from_residual-in_err-check_threads_in.ensures.1 in
    rw (p.1, p.2) (undo_busy c.args.self.now.machine c.in_ok-at.at _ is c.in_err-check_threads_in.ensures)

pub take_back_at-requires-clause-place : goal.take_back_at-requires-clause-place
take_back_at-requires-clause-place g c = c.in_ok-at.ensures.0

pub take_back_at-requires-clause-uncovered : goal.take_back_at-requires-clause-uncovered
take_back_at-requires-clause-uncovered g c =
    let is : IsNewestAt c.args.self.now.machine c.in_ok-at.at = record {
      built = c.machine-program.ensures.built;
      less = c.in_ok-at.ensures.0;
      newest = c.in_ok-at.ensures.1;
    } in
    undo_clear c.args.self.now.machine c.in_ok-at.at is

pub returns-clause-answered : goal.returns-clause-answered
returns-clause-answered g c =
    let is : IsNewestAt c.args.self.now.machine c.in_ok-at.at = record {
      built = c.machine-program.ensures.built;
      less = c.in_ok-at.ensures.0;
      newest = c.in_ok-at.ensures.1;
    } in
    undo_done c.args.self.now.machine c.take_back_at.new.self.machine c.in_ok-at.at c.take_back_at.result is
    c.in_ok-check_threads_in.ensures c.take_back_at.ensures.withdrawn
