use Rattle.live_poke.proofs.LiveLaws.{always_live}
use Rattle.live_poke.proofs.laws.systems_stay_live.Goals as goal

pub returns : goal.returns
returns c =
    always_live c.first_writes_open_one_home.ensures c.machines_are_built.ensures c.retired_code_is_not_met.ensures
    c.phases_leave_views.ensures
