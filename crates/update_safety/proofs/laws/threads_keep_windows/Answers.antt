use Rattle.update_safety.proofs.WindowLaws.{starts_keep_windows, steps_keep_windows}
use Rattle.update_safety.proofs.laws.threads_keep_windows.Goals as goal

pub returns-clause-starts : goal.returns-clause-starts
returns-clause-starts c = starts_keep_windows

pub returns-clause-steps : goal.returns-clause-steps
returns-clause-steps c = steps_keep_windows
