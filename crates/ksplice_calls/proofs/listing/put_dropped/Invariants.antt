use Rattle.std.proofs.Common.{◌≡◌, ◌++◌, drop}
use Rattle.std.specs.List.{flat_map}
use Rattle.ksplice_calls.specs.Difference.{dropped_line}
use Rattle.ksplice_calls.proofs.listing.put_dropped.Given as goal

-- the lines so far, and then those of the other functions, are those of all
abbrev pub invariant-loop-name : goal.invariant-loop-name
invariant-loop-name l =
    l.lines ++ flat_map (dropped_line l.old) (drop l.name-index l.name-items)
    ≡ l.fn.lines ++ flat_map (dropped_line l.old) l.names
