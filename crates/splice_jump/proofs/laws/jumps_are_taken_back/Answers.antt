use Rattle.splice_jump.proofs.ChangeLaws.{jump_taken_back, all_taken_back}
use Rattle.splice_jump.proofs.laws.jumps_are_taken_back.Goals as goal

pub returns-clause-last : goal.returns-clause-last
returns-clause-last c contents rows home base valid spliced = jump_taken_back contents rows home base valid spliced

pub returns-clause-all : goal.returns-clause-all
returns-clause-all c contents rows valid spliced = all_taken_back contents rows valid spliced
