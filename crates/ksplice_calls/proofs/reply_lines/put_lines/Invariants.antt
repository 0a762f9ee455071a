use Rattle.std.proofs.Common.{◌≡◌, ◌++◌, map, drop}
use Rattle.std.specs.List.{flat_map}
use Rattle.ksplice_calls.specs.Works.{ended_line}
use Rattle.ksplice_calls.proofs.reply_lines.put_lines.Given as goal

-- the bytes so far, and then the rest of the lines, are all
abbrev pub invariant-loop-line : goal.invariant-loop-line
invariant-loop-line l =
    l.to.items ++ flat_map ended_line (map (λ line. line.now) (drop l.line-index l.lines))
    ≡ l.fn.to.items ++ flat_map ended_line (map (λ line. line.now) l.lines)
