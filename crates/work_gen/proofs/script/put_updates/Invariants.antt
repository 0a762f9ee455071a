use Rattle.std.proofs.Common.{◌≡◌, ◌++◌}
use Rattle.std.specs.List.{flat_map, range_with_len}
use Rattle.work_gen.specs.Script.{update_lines}
use Rattle.work_gen.proofs.script.put_updates.Given as goal

abbrev pub invariant-loop-k : goal.invariant-loop-k
invariant-loop-k l = l.script ≡ l.fn.script ++ flat_map update_lines (range_with_len 0 l.k)
