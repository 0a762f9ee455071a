use Rattle.live_poke.proofs.MarkLaws.{tail_four, seal_one}
use Rattle.live_poke.proofs.laws.later_writes_change_their_bytes.Goals as goal

pub returns-clause-tail : goal.returns-clause-tail
returns-clause-tail c = tail_four

pub returns-clause-seal : goal.returns-clause-seal
returns-clause-seal c = seal_one c.accepted_updates_lie_on_top.ensures.jumps
