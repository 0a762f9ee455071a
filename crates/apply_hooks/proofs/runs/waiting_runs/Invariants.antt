-- The runs of the functions so far.
use Rattle.std.proofs.Common.{◌≡◌, map, take}
use Rattle.apply_hooks.specs.Runs.{waiting}
use Rattle.apply_hooks.proofs.runs.waiting_runs.Given as goal

abbrev pub invariant-loop-hook : goal.invariant-loop-hook
invariant-loop-hook l = l.runs ≡ map waiting (take l.hook-index l.hooks)
