use Rattle.splice_jump.proofs.ChangeLaws.{row_appended, base_exchanged}
use Rattle.splice_jump.proofs.laws.jumps_are_added_and_replaced.Goals as goal

pub returns-clause-added : goal.returns-clause-added
returns-clause-added c rows home base pieces = row_appended rows home base pieces

pub returns-clause-replaced : goal.returns-clause-replaced
returns-clause-replaced c contents rows home base valid spliced at =
    base_exchanged contents rows home base valid spliced at
