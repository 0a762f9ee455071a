use Rattle.std.proofs.Common.{◌≡◌, take, drop}
use Rattle.link_post.proofs.SweepLaws.{left_of, GoesOn}
use Rattle.link_post.proofs.arena.swept.Given as goal

abbrev pub invariant-loop-range : goal.invariant-loop-range
invariant-loop-range l =
    (l.left ≡ left_of (take l.range-index l.free) l.taken)
    × GoesOn (drop l.range-index l.free) l.taken l.at.next l.at.reach
