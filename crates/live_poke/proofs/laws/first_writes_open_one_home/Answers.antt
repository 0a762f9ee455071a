use Rattle.live_poke.proofs.MarkLaws.{marks_one}
use Rattle.live_poke.proofs.laws.first_writes_open_one_home.Goals as goal

pub returns : goal.returns
returns c =
    marks_one c.accepted_updates_lie_on_top.ensures.accepted c.accepted_updates_lie_on_top.ensures.jumps
    c.accepted_updates_lie_on_top.ensures.single
