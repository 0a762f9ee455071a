use Rattle.update_stack.proofs.BuiltLaws.{code_kept}
use Rattle.update_stack.proofs.PlanLaws.{planned_can}
use Rattle.update_stack.proofs.laws.updates_can_be_made.Goals as goal

pub returns-clause-can : goal.returns-clause-can
returns-clause-can c =
    planned_can c.plans_can_be_made.ensures c.gaps_are_free.ensures.ascend c.gaps_are_free.ensures.below
    c.gaps_are_free.ensures.apart

pub returns-clause-code : goal.returns-clause-code
returns-clause-code c = code_kept c.pieces_are_added.ensures.code
