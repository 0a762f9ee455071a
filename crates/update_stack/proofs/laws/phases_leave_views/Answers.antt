use Rattle.update_stack.proofs.OpenHomeLaws.{phase_views}
use Rattle.update_stack.proofs.laws.phases_leave_views.Goals as goal

pub returns : goal.returns
returns c = λ phase k pc built opened.
    phase_views c.jumps_leave_views.ensures c.homes_stay_spliced.ensures.jumped c.homes_stay_spliced.ensures.valid
    c.homes_are_not_looked_at.ensures phase k pc built opened
