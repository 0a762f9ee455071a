use Rattle.std.proofs.Common.{◌≡◌}
use Rattle.std.specs.List.{find}
use Rattle.update_stack.specs.Systems.{live_updates}
use Rattle.update_stack.specs.Undo.{retires_in}
use Rattle.update_stack.proofs.CoverLaws.{ahead}
use Rattle.update_stack.proofs.covering.check_covers.Given as goal

abbrev pub invariant-loop-update : goal.invariant-loop-update
invariant-loop-update l =
    (goal.iterator-loop-update).can_next l.update-iterator
    × (goal.iterator-loop-update).is_finite l.update-iterator
    × (find (retires_in l.ranges) (live_updates l.updates l.kept)
    ≡ find (retires_in l.ranges) (ahead l.update-iterator))
