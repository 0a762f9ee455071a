use Rattle.std.proofs.Common.{◌≡◌, ◌++◌, map}
use Rattle.std.specs.List.{range_with_len}
use Rattle.work_gen.specs.Objects.{relocation_section}
use Rattle.work_gen.proofs.objects.put_relocation_sections.Given as goal

abbrev pub invariant-loop-i : goal.invariant-loop-i
invariant-loop-i l = l.sections ≡ l.fn.sections ++ map (relocation_section l.count) (range_with_len 0 l.i)
