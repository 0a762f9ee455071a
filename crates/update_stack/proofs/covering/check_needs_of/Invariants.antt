use Rattle.std.proofs.Common.{◌≡◌, drop}
use Rattle.i386_reloc.specs.Refused.{first_among}
use Rattle.update_stack.specs.Systems.{live_update}
use Rattle.update_stack.specs.Undo.{first_need, first_need_of}
use Rattle.update_stack.proofs.covering.check_needs_of.Given as goal

abbrev pub invariant-loop-needs : goal.invariant-loop-needs
invariant-loop-needs l =
    first_need l.ranges (live_update l.update l.one)
    ≡ first_among (first_need_of l.ranges (live_update l.update l.one)) (drop l.needs-index l.needs-items)
