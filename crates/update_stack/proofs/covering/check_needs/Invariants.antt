use Rattle.std.proofs.Common.{◌≡◌}
use Rattle.i386_reloc.specs.Refused.{first_among}
use Rattle.update_stack.specs.Systems.{live_updates}
use Rattle.update_stack.specs.Undo.{first_need}
use Rattle.update_stack.proofs.CoverLaws.{ahead}
use Rattle.update_stack.proofs.covering.check_needs.Given as goal

abbrev pub invariant-loop-update : goal.invariant-loop-update
invariant-loop-update l =
    (goal.iterator-loop-update).can_next l.update-iterator
    × (goal.iterator-loop-update).is_finite l.update-iterator
    × (first_among (first_need l.ranges) (live_updates l.updates l.kept)
    ≡ first_among (first_need l.ranges) (ahead l.update-iterator))
