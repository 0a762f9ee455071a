use Rattle.work_forms.proofs.HeaderLaws.{pre_short, post_short}
use Rattle.work_forms.proofs.laws.objects_are_short.Goals as goal

pub returns-clause-pre : goal.returns-clause-pre
returns-clause-pre c = pre_short

pub returns-clause-post : goal.returns-clause-post
returns-clause-post c = post_short
