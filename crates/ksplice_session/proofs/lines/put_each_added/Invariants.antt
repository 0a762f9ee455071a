use Rattle.std.proofs.Common.{◌≡◌, ◌++◌, drop}
use Rattle.std.specs.List.{flat_map}
use Rattle.ksplice_session.specs.Lines.{added_line}
use Rattle.ksplice_session.proofs.lines.put_each_added.Given as goal

-- the lines so far, and then those of the other functions, are those of all
abbrev pub invariant-loop-function : goal.invariant-loop-function
invariant-loop-function l =
    l.line ++ flat_map added_line (drop l.function-index l.functions) ≡ l.fn.line ++ flat_map added_line l.functions
