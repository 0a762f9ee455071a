use Rattle.update_stack.proofs.LeftLaws.{LeftLaws, uncovered_goes}
use Rattle.update_stack.proofs.UncoveredLaws.{uncovered_newest, uncovered_alone, uncovered_past}
use Rattle.update_stack.proofs.uncovered.uncovered_updates_can_go.Goals as goal

pub returns-clause-newest : goal.returns-clause-newest
returns-clause-newest c = uncovered_newest

pub returns-clause-alone : goal.returns-clause-alone
returns-clause-alone c = uncovered_alone

pub returns-clause-goes : goal.returns-clause-goes
returns-clause-goes c =
    let laws : LeftLaws = record {
      valid = c.memory_stays_memory.ensures;
      ranges = c.changes_are_withdrawn.ensures.bare;
      code = c.code_that_stays.ensures.code;
    } in
    uncovered_goes laws

pub returns-clause-past : goal.returns-clause-past
returns-clause-past c = uncovered_past
