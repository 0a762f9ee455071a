use Rattle.std.proofs.Common.{◌≡◌, ◌-◌, min}
use Rattle.update_retired.specs.Room.{padding_end}
use Rattle.update_retired.proofs.jump_room.padding_end.Given as goal

abbrev pub invariant-loop-end : goal.invariant-loop-end
invariant-loop-end g l =
    min (padding_end (g.S.Space.contents l.space) (l.limit - l.end) l.end) l.limit
    ≡ min (padding_end (g.S.Space.contents l.space) (l.limit - l.begin) l.begin) l.limit

abbrev pub decreases-loop-end : goal.decreases-loop-end
decreases-loop-end g l = l.limit - l.end
