use Rattle.std.proofs.Common.{◌≡◌, ◌++◌, take}
use Rattle.std.specs.List.{flat_map}
use Rattle.update_stack.specs.Scratch.{scratch_ranges}
use Rattle.update_stack.specs.declared.updates.Kept.{Kept}
use Rattle.update_stack.proofs.live.taken_by.Given as goal

abbrev pub invariant-loop-one : goal.invariant-loop-one
invariant-loop-one l = l.ranges.items ≡ scratch_ranges l.fn.scratch ++ flat_map (λ (one : Kept). one.ranges) (take l.one-index l.kept)
