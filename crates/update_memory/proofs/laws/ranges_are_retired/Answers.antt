use Rattle.update_memory.proofs.FenceLaws.{valid_retired, pieces_stay, ranges_retired, fence_kept, fence_given}
use Rattle.update_memory.proofs.laws.ranges_are_retired.Goals as goal

pub returns-clause-valid : goal.returns-clause-valid
returns-clause-valid c contents fences valid can = valid_retired contents fences valid can

pub returns-clause-pieces : goal.returns-clause-pieces
returns-clause-pieces c contents fences = pieces_stay contents fences

pub returns-clause-ranges : goal.returns-clause-ranges
returns-clause-ranges c contents fences = ranges_retired contents fences

pub returns-clause-kept : goal.returns-clause-kept
returns-clause-kept c contents fences fence at = fence_kept contents fences fence at

pub returns-clause-given : goal.returns-clause-given
returns-clause-given c contents fences fence at = fence_given contents fences fence at.0 at.1 at.2
