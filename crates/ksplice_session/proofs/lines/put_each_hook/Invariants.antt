use Rattle.std.proofs.Common.{◌≡◌, ◌++◌, drop}
use Rattle.std.specs.List.{flat_map}
use Rattle.ksplice_session.specs.Lines.{hook_line}
use Rattle.ksplice_session.proofs.lines.put_each_hook.Given as goal

-- the lines so far, and then those of the other runs, are those of all
abbrev pub invariant-loop-run : goal.invariant-loop-run
invariant-loop-run l = l.line ++ flat_map hook_line (drop l.run-index l.runs) ≡ l.fn.line ++ flat_map hook_line l.runs
