use Rattle.std.proofs.Common.{◌≡◌, ◌≤◌, ◌+◌, map, drop}
use Rattle.ksplice_calls.specs.Works.{count_with}
use Rattle.ksplice_calls.proofs.reply_lines.count_with.Given as goal

-- the lines counted so far, and those of the rest, are those of all
abbrev pub invariant-loop-line : goal.invariant-loop-line
invariant-loop-line l = record {
  counted : l.count + count_with l.text (map (λ line. line.now) (drop l.line-index l.lines))
      ≡ count_with l.text (map (λ line. line.now) l.lines);
  few : l.count ≤ l.line-index;
}
