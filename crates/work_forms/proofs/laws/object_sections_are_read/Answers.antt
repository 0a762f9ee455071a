use Rattle.work_forms.proofs.ObjectLaws.{pre_count, pre_read, post_count, post_read}
use Rattle.work_forms.proofs.laws.object_sections_are_read.Goals as goal

pub returns-clause-pre_count : goal.returns-clause-pre_count
returns-clause-pre_count c = pre_count

pub returns-clause-pre : goal.returns-clause-pre
returns-clause-pre c = pre_read

pub returns-clause-post_count : goal.returns-clause-post_count
returns-clause-post_count c = post_count

pub returns-clause-post : goal.returns-clause-post
returns-clause-post c = post_read
