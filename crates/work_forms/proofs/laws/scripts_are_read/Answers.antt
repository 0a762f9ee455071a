use Rattle.work_forms.proofs.ScriptLaws.{script_read}
use Rattle.work_forms.proofs.laws.scripts_are_read.Goals as goal

pub returns : goal.returns
returns c = script_read
