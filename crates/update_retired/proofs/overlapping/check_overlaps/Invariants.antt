use Rattle.std.proofs.Common.{◌≡◌, drop}
use Rattle.i386_reloc.specs.Refused.{first_among}
use Rattle.update_retired.specs.Overlaps.{overlap_refusal}
use Rattle.update_retired.proofs.overlapping.check_overlaps.Given as goal

abbrev pub invariant-loop-old : goal.invariant-loop-old
invariant-loop-old l =
    first_among (overlap_refusal l.retired l.olds) l.olds
    ≡ first_among (overlap_refusal l.retired l.olds) (drop l.old-index l.olds)
