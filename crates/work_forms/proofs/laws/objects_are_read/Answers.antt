use Rattle.work_forms.proofs.NormalLaws.{pre_normal, post_normal}
use Rattle.work_forms.proofs.laws.objects_are_read.Goals as goal

pub returns-clause-pre : goal.returns-clause-pre
returns-clause-pre c = pre_normal

pub returns-clause-post : goal.returns-clause-post
returns-clause-post c = post_normal
