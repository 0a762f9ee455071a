-- So many functions were run, each of which returned.
use Rattle.std.proofs.Common.{◌≡◌, IsTrue}
use Rattle.image_threads.specs.Spawning.{is_stack}
use Rattle.splice_jump.specs.declared.phase.Phase.TheVariants.{Done}
use Rattle.update_stack.specs.Aside.{LeavesAside}
use Rattle.apply_hooks.proofs.RunsLaws.{HasRun}
use Rattle.apply_hooks.proofs.runs.run_each.Given as goal

abbrev pub invariant-loop-at : goal.invariant-loop-at
invariant-loop-at g l = record {
  has : HasRun l.hooks l.stack.low l.fn.system.machine l.system.machine l.runs l.at;
  aside : LeavesAside l.fn.system.machine l.system.machine;
  stands : IsTrue (is_stack l.system.machine.pieces l.stack);
  phase : l.system.phase ≡ Done;
}
