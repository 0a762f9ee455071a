use Rattle.std.proofs.Common.{◌≡◌, ◌++◌, map}
use Rattle.std.specs.List.{range_with_len}
use Rattle.work_gen.specs.Objects.{code_section}
use Rattle.work_gen.specs.inside.Builds.{count_of, constants_of}
use Rattle.work_gen.proofs.objects.put_code_sections.Given as goal

abbrev pub invariant-loop-i : goal.invariant-loop-i
invariant-loop-i l =
    l.sections ≡ l.fn.sections ++ map (code_section (count_of l.build) (constants_of l.build)) (range_with_len 0 l.i)
