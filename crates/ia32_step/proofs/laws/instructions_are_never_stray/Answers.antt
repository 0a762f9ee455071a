use Rattle.ia32_step.proofs.FaultLaws.{never_stray}
use Rattle.ia32_step.proofs.laws.instructions_are_never_stray.Goals as goal

pub returns : goal.returns
returns c contents thread decoded = never_stray contents thread decoded
