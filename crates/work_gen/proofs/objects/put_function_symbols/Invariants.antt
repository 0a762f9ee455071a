use Rattle.std.proofs.Common.{◌≡◌, ◌++◌, length, map}
use Rattle.std.specs.List.{flat_map, range_with_len}
use Rattle.work_gen.specs.Encoding.{ended}
use Rattle.work_gen.specs.Functions.{function_name}
use Rattle.work_gen.specs.Objects.{function_symbols}
use Rattle.work_gen.specs.inside.Builds.{count_of, constants_of}
use Rattle.work_gen.proofs.objects.put_function_symbols.Given as goal

-- the entries and the names so far
abbrev pub invariant-loop-i : goal.invariant-loop-i
invariant-loop-i l =
    (l.to.items ≡ l.fn.to.items
    ++ function_symbols (count_of l.build) (constants_of l.build) (length l.fn.names.items) (range_with_len 0 l.i))
    × (l.names.items ≡ l.fn.names.items ++ flat_map ended (map function_name (range_with_len 0 l.i)))
