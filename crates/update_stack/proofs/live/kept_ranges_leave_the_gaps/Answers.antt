use Rattle.update_stack.proofs.GapLaws.{kept_leave}
use Rattle.update_stack.proofs.live.kept_ranges_leave_the_gaps.Goals as goal

pub returns : goal.returns
returns c k kept built are = kept_leave c.order_has_no_say.ensures k kept built are
