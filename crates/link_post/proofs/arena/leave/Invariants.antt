use Rattle.std.proofs.Common.{◌≡◌, length, ◌-◌, ◌++◌, [], ◌∷◌, max, drop}
use Rattle.link_post.specs.inside.Sweeping.{Stands}
use Rattle.link_post.proofs.CutLaws.{part}
use Rattle.link_post.proofs.SweepLaws.{left_of}
use Rattle.link_post.proofs.arena.leave.Given as goal

abbrev pub invariant-loop-at : goal.invariant-loop-at
invariant-loop-at l = record {
  stands : Stands l.taken l.range.high l.at.next l.at.reach;
  same : l.left ++ left_of (part (max l.range.low l.at.reach) l.range.high) (drop l.at.next l.taken)
      ≡ l.initial.left ++ left_of (l.range ∷ []) l.taken;
}

abbrev pub decreases-loop-at : goal.decreases-loop-at
decreases-loop-at l = length l.taken - l.at.next
