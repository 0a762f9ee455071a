use Rattle.std.proofs.Common.{◌≡◌, ◌++◌, ◌-◌}
use Rattle.std.specs.List.{flat_map, range_with_len}
use Rattle.ksplice_session.specs.Lines.{peeked_at}
use Rattle.ksplice_session.proofs.lines.put_each_byte.Given as goal

-- the bytes so far, and then those of the other addresses, are those of all
abbrev pub invariant-loop-at : goal.invariant-loop-at
invariant-loop-at g l =
    l.line ++ flat_map (peeked_at (g.S.Space.contents l.space).pieces) (range_with_len l.at (l.at-end - l.at))
    ≡ l.fn.line ++ flat_map (peeked_at (g.S.Space.contents l.space).pieces) (range_with_len l.address l.count)
