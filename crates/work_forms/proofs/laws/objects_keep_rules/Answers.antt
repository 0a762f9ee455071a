use Rattle.work_forms.proofs.EntryLaws.{pre_kept, post_kept}
use Rattle.work_forms.proofs.laws.objects_keep_rules.Goals as goal

pub returns-clause-pre : goal.returns-clause-pre
returns-clause-pre c = pre_kept

pub returns-clause-post : goal.returns-clause-post
returns-clause-post c = post_kept
