-- What the bytes of a script ask for, or its first line that isn't in the grammar.
use Rattle.std.specs.Prelude.{ℕ, ◌+◌, nat_lt, min, is_none, List, length, flat_map, if◌then◌else◌}
use Rattle.std.specs.Prelude.{None, unwrap_or, option_to_list, Result, Ok, Err}
use Rattle.std.specs.List.{position_or_len}
use Rattle.ks_base.specs.declared.refusals.Refusal.{Refusal}
use Rattle.ks_base.specs.declared.refusals.Refusal.TheVariants.{BadLine}
use Rattle.script_lines.specs.declared.types.Command.{Command}
use Rattle.script_lines.specs.Lines.{lines_of}
use Rattle.script_lines.specs.Forms.{asked_in}

-- How many lines stand before the first that isn't in the grammar: all where there is none. The line
-- after 65,536 others is never in it.
abbrev pub lines_before_bad : List (List ℕ) → ℕ
lines_before_bad lines = min 65536 (position_or_len (λ line. is_none (asked_in line)) lines)

-- the command that a line gives, if it gives one
abbrev pub commands_of : List ℕ → List Command
commands_of line = option_to_list (unwrap_or (asked_in line) None)

-- the commands of lines in order, or the first bad line's number, counted from 1
abbrev pub commands_in : List (List ℕ) → Result (List Command) Refusal
commands_in lines =
    if nat_lt (lines_before_bad lines) (length lines)
    then Err (BadLine (lines_before_bad lines + 1))
    else Ok (flat_map commands_of lines)

-- the commands of a script
unfoldable pub script_of : List ℕ → Result (List Command) Refusal
script_of bytes = commands_in (lines_of bytes)
