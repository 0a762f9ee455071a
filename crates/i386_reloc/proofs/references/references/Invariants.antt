use Rattle.std.proofs.Common.{◌≡◌, map, take}
use Rattle.i386_reloc.specs.References.{reference_of}
use Rattle.i386_reloc.proofs.references.references.Given as goal

abbrev pub invariant-loop-r : goal.invariant-loop-r
invariant-loop-r l = l.refs.items ≡ map (reference_of l.source.object.now l.i) (take l.r-index l.fields)
