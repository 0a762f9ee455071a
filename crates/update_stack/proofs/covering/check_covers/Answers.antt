use Rattle.std.proofs.Common.{◌∙◌, ap}
use Rattle.std.specs.List.{find}
use Rattle.update_stack.specs.Undo.{retires_in}
use Rattle.update_stack.proofs.CoverLaws.{none_ahead}
use Rattle.update_stack.proofs.covering.check_covers.Goals as goal

pub returns-clause-found : goal.returns-clause-found
returns-clause-found c =
    c.loop-update.invariant.2
    ∙ ap (find (retires_in c.args.ranges.now))
    (none_ahead c.loop-update.update-iterator c.next.new.self c.next.result c.in-None.is c.next.ensures.steps)
