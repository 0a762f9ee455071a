use Rattle.std.proofs.Common.{◌≡◌, ◌++◌, drop}
use Rattle.std.specs.List.{flat_map}
use Rattle.ksplice_session.specs.Lines.{update_line}
use Rattle.ksplice_session.proofs.lines.put_each_update.Given as goal

-- the lines so far, and then those of the other updates, are those of all
abbrev pub invariant-loop-update : goal.invariant-loop-update
invariant-loop-update l =
    l.line ++ flat_map update_line (drop l.update-index l.updates) ≡ l.fn.line ++ flat_map update_line l.updates
