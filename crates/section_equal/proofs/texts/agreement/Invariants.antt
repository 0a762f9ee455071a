-- As many bytes as are passed are equal.
use Rattle.section_equal.specs.inside.Texts.{Agree}
use Rattle.section_equal.proofs.texts.agreement.Given as goal

abbrev pub invariant-loop-count : goal.invariant-loop-count
invariant-loop-count l = Agree l.old l.new l.ends.old_end l.ends.new_end l.count
