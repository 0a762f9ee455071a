use Rattle.std.proofs.Common.{arith}
use Rattle.std.proofs.lemmas.Grind.{common_steps}
use Rattle.script_lines.specs.Script.{script_of}
use Rattle.script_lines.proofs.Bounds.{all_allowed}
use Rattle.script_lines.proofs.reading.read_script.Goals as goal

pub returns-clause-allowed : goal.returns-clause-allowed
unfolding script_of
returns-clause-allowed c = all_allowed c.args.bytes.now c.loop-rest.script (grind (arith, common_steps))
