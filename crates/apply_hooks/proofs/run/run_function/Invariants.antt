-- What is left of the run, which goes on from the steps that were made.
use Rattle.std.proofs.Common.{◌≡◌, ◌-◌}
use Rattle.ia32_step.specs.declared.types.State.TheVariants.{Running}
use Rattle.splice_jump.specs.declared.phase.Phase.TheVariants.{Done}
use Rattle.update_stack.specs.Aside.{LeavesAside}
use Rattle.update_stack.specs.HookRuns.{hook_budget, hook_run, hook_steps}
use Rattle.apply_hooks.proofs.run.run_function.Given as goal

abbrev pub invariant-loop-made : goal.invariant-loop-made
invariant-loop-made g l = record {
  rest : hook_steps l.made (hook_budget - l.made) l.system.machine l.thread
      ≡ hook_run l.fn.system.machine l.fn.stack.low l.address;
  running : l.thread.state ≡ Running;
  aside : LeavesAside l.fn.system.machine l.system.machine;
  phase : l.system.phase ≡ Done;
}
