use Rattle.std.proofs.Common.{◌≡◌, ◌++◌, take}
use Rattle.std.specs.List.{flat_map}
use Rattle.work_gen.specs.Image.{stack_bounds}
use Rattle.work_gen.proofs.image.put_stacks.Given as goal

abbrev pub invariant-loop-low : goal.invariant-loop-low
invariant-loop-low l = l.out.items ≡ l.fn.out.items ++ flat_map stack_bounds (take l.low-index l.lows)
