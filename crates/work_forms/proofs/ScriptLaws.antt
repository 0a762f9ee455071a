-- The script of a work is read as its commands.
use Rattle.std.proofs.Common.{◌≡◌, ℕ, Ok, refl}
use Rattle.ks_base.specs.Text.{number_text, digits_text}
use Rattle.script_lines.specs.Script.{script_of}
use Rattle.work_gen.specs.Script.{script_file, update_line, update_lines}
use Rattle.work_gen.specs.Work.{work_of}
use Rattle.work_forms.specs.Commands.{work_commands}

file_read : script_of script_file ≡ Ok work_commands
unfolding script_of script_file update_lines update_line work_commands number_text digits_text
file_read = refl

pub script_read : (number : ℕ) → script_of (work_of number).script ≡ Ok work_commands
unfolding work_of
script_read number = file_read
