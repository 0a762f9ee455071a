use Rattle.stack_scan.proofs.OrderLaws.{stands_same, refusal_same}
use Rattle.stack_scan.proofs.sorting.order_has_no_say.Goals as goal

pub returns-clause-thread : goal.returns-clause-thread
returns-clause-thread c pieces ranges others thread same = stands_same pieces ranges others same thread

pub returns-clause-threads : goal.returns-clause-threads
returns-clause-threads c pieces ranges others threads same = refusal_same pieces ranges others same threads
