use Rattle.saved_data.proofs.RestoreLaws.{saved_fit, saved_same}
use Rattle.saved_data.proofs.laws.saved_data_come_back.Goals as goal

pub returns-clause-fit : goal.returns-clause-fit
returns-clause-fit c = saved_fit

pub returns-clause-same : goal.returns-clause-same
returns-clause-same c = saved_same
