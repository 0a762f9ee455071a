-- All ends that the walk touched share what it counts.
use Rattle.std.proofs.Common.{List}
use Rattle.i386_reloc.specs.declared.types.NormalSection.{NormalSection}
use Rattle.match_constants.specs.Endings.{Agree, AreEndings, end_at}
use Rattle.match_constants.proofs.endings.Endings.between.Given as goal

abbrev pub invariant-loop-j : goal.invariant-loop-j
invariant-loop-j l = (object : List NormalSection) → AreEndings object l.self →
    Agree object (end_at l.self.ends.items l.first) (end_at l.self.ends.items l.walk.at) l.walk.count
