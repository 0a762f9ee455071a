use Rattle.extract_post.specs.inside.Marks.{NoBreakBelow}
use Rattle.extract_post.proofs.interiors.first_break.Given as goal

abbrev pub invariant-loop-i : goal.invariant-loop-i
invariant-loop-i l = NoBreakBelow l.post l.old l.new l.changed l.stays l.i
