use Rattle.std.proofs.Common.{◌≡◌, ◌≤◌, length}
use Rattle.script_lines.specs.Lines.{lines_of}
use Rattle.script_lines.specs.Script.{commands_in}
use Rattle.script_lines.proofs.LineByLine.{commands_after, with_front}
use Rattle.script_lines.proofs.reading.read_script.Given as goal

-- the commands so far, and those of the lines that are left, are the commands of all lines
abbrev pub invariant-loop-rest : goal.invariant-loop-rest
invariant-loop-rest l = record {
  commands : with_front l.script (commands_after l.number (lines_of l.rest)) ≡ commands_in (lines_of l.bytes);
  few : l.number ≤ 65536;
}

abbrev pub decreases-loop-rest : goal.decreases-loop-rest
decreases-loop-rest l = length l.rest
