use Rattle.std.proofs.Common.{◌≡◌, drop}
use Rattle.i386_reloc.specs.Refused.{first_among}
use Rattle.update_retired.specs.Overlaps.{room_refusal}
use Rattle.update_retired.proofs.refusals.check_rooms.Given as goal

abbrev pub invariant-loop-old : goal.invariant-loop-old
invariant-loop-old g l =
    first_among (room_refusal (g.S.Space.contents l.space) l.table.symbols) l.olds
    ≡ first_among (room_refusal (g.S.Space.contents l.space) l.table.symbols) (drop l.old-index l.olds)
