use Rattle.std.proofs.Common.{◌≡◌, map, take}
use Rattle.update_plan.specs.Hooks.{hook_of}
use Rattle.update_plan.proofs.hooks.hooks_of.Given as goal

-- the functions so far
abbrev pub invariant-loop-number : goal.invariant-loop-number
invariant-loop-number l = l.hooks ≡ map (hook_of l.pre l.post l.placement l.values.entries) (take l.number l.list)
