use Rattle.std.proofs.Common.{◌≡◌, ◌++◌}
use Rattle.std.specs.List.{flat_map}
use Rattle.ksplice_calls.specs.Solution.{value_line}
use Rattle.ksplice_calls.proofs.solution.list_values.Given as goal

-- the lines so far, and then those of the other values, are those of all
abbrev pub invariant-loop-unknown : goal.invariant-loop-unknown
invariant-loop-unknown l =
    l.lines ++ flat_map (value_line l.object) l.unknown-iterator ≡ flat_map (value_line l.object) l.values.entries
