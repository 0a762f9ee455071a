-- The first of those that are left decides, or it is passed and the others do.
use Rattle.std.proofs.Common.{◌∙◌, arith}
use Rattle.std.proofs.lemmas.Result.{err_from_is_err_and}
use Rattle.stack_scan.proofs.CheckLaws.{next_refused, next_passed, all_passed}
use Rattle.stack_scan.proofs.checks.check_threads.Goals as goal

pub returns-in_err-check_thread : goal.returns-in_err-check_thread
returns-in_err-check_thread g c =
    let p = err_from_is_err_and c.from_residual.result c.from_residual.ensures.1 in
    rw (p.1, p.2)
    (next_refused (g.S.Space.contents c.args.space.now).pieces c.new-targets.result c.args.threads.now
    c.loop-thread.thread-index _ _ c.loop-thread-test.true c.in_err-check_thread.ensures
    ∙ c.loop-thread.invariant.1)

pub loop-thread-preserved : goal.loop-thread-preserved
loop-thread-preserved g c = (
  omega arith,
  next_passed (g.S.Space.contents c.args.space.now).pieces c.new-targets.result c.args.threads.now
      c.loop-thread.thread-index _ c.loop-thread-test.true c.in_ok-check_thread.ensures
      ∙ c.loop-thread.invariant.1,
)

pub returns : goal.returns
returns g c =
    all_passed (g.S.Space.contents c.args.space.now).pieces c.new-targets.result c.args.threads.now
    c.loop-thread.thread-index c.loop-thread-test.false
    ∙ c.loop-thread.invariant.1
