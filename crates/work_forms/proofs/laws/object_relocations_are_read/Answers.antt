use Rattle.work_forms.proofs.RelocationLaws.{pre_relocations, post_relocations}
use Rattle.work_forms.proofs.laws.object_relocations_are_read.Goals as goal

pub returns-clause-pre : goal.returns-clause-pre
returns-clause-pre c = pre_relocations

pub returns-clause-post : goal.returns-clause-post
returns-clause-post c = post_relocations
