use Rattle.live_poke.proofs.EventLaws.{goes_on}
use Rattle.live_poke.proofs.laws.machines_go_on.Goals as goal

pub returns : goal.returns
returns c = goes_on
