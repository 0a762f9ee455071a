-- The ends that were passed have their counts, where those of the level are right.
use Rattle.std.proofs.Common.{◌≡◌, ◌+◌, length, List}
use Rattle.i386_reloc.specs.declared.types.NormalSection.{NormalSection}
use Rattle.match_constants.specs.declared.endings.End.{End}
use Rattle.match_constants.specs.Endings.{Share, IsLevel}
use Rattle.match_constants.proofs.endings.doubled.Given as goal

abbrev pub invariant-loop-i : goal.invariant-loop-i
invariant-loop-i l = record {
  share : (object : List NormalSection) (ends : List End) → IsLevel object ends l.level →
      Share object ends (l.level.step + l.level.step) l.shared.items;
  many : length l.shared.items ≡ l.i;
}
