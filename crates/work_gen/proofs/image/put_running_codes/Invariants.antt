use Rattle.std.proofs.Common.{◌≡◌, ◌++◌}
use Rattle.std.specs.List.{flat_map, range_with_len}
use Rattle.work_gen.specs.Functions.{running_code}
use Rattle.work_gen.proofs.image.put_running_codes.Given as goal

abbrev pub invariant-loop-i : goal.invariant-loop-i
invariant-loop-i l = l.out.items ≡ l.fn.out.items ++ flat_map (running_code l.number) (range_with_len 0 l.i)
