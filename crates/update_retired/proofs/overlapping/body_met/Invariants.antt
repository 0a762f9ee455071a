use Rattle.std.proofs.Common.{◌≡◌, drop}
use Rattle.std.specs.List.{find}
use Rattle.image_memory.specs.Ranges.{meets}
use Rattle.update_retired.specs.Overlaps.{other_bodies}
use Rattle.update_retired.proofs.overlapping.body_met.Given as goal

abbrev pub invariant-loop-other : goal.invariant-loop-other
invariant-loop-other l =
    find (meets l.range) (other_bodies l.old l.olds)
    ≡ find (meets l.range) (other_bodies l.old (drop l.other-index l.olds))
