use Rattle.std.proofs.Common.{◌≡◌, map, take}
use Rattle.i386_reloc.specs.inside.Targets.{place_by_index}
use Rattle.i386_reloc.proofs.targets.places.Given as goal

abbrev pub invariant-loop-r : goal.invariant-loop-r
invariant-loop-r l = l.places.items ≡ map (place_by_index l.source.object.now) (take l.r-index l.fields)
