use Rattle.std.proofs.Common.{◌≡◌, ◌++◌}
use Rattle.std.specs.List.{flat_map, range_with_len}
use Rattle.work_gen.specs.Objects.{section_symbol}
use Rattle.work_gen.proofs.objects.put_section_symbols.Given as goal

abbrev pub invariant-loop-i : goal.invariant-loop-i
invariant-loop-i l = l.to.items ≡ l.fn.to.items ++ flat_map section_symbol (range_with_len 0 l.i)
