use Rattle.update_memory.proofs.WithdrawLaws.{pieces_withdrawn, fences_withdrawn, ranges_withdrawn, bare_ranges}
use Rattle.update_memory.proofs.laws.changes_are_withdrawn.Goals as goal

pub returns-clause-pieces : goal.returns-clause-pieces
returns-clause-pieces c contents pieces valid placeable can = pieces_withdrawn contents pieces valid placeable can

pub returns-clause-fences : goal.returns-clause-fences
returns-clause-fences c contents fences valid can = fences_withdrawn contents fences valid can

pub returns-clause-ranges : goal.returns-clause-ranges
returns-clause-ranges c contents fences valid can = ranges_withdrawn contents fences valid can

pub returns-clause-bare : goal.returns-clause-bare
returns-clause-bare c taken fences = bare_ranges taken fences
