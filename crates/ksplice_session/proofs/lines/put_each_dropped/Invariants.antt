use Rattle.std.proofs.Common.{◌≡◌, ◌++◌, drop}
use Rattle.std.specs.List.{flat_map}
use Rattle.ksplice_session.specs.Lines.{dropped_line}
use Rattle.ksplice_session.proofs.lines.put_each_dropped.Given as goal

-- the lines so far, and then those of the other functions, are those of all
abbrev pub invariant-loop-function : goal.invariant-loop-function
invariant-loop-function l = l.line ++ flat_map dropped_line (drop l.function-index l.functions)
    ≡ l.fn.line ++ flat_map dropped_line l.functions
