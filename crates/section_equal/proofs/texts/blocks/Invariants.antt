-- The bytes of the blocks that are passed are equal.
use Rattle.std.proofs.Common.{◌-◌, ◌≤◌}
use Rattle.section_equal.specs.inside.Texts.{Agree}
use Rattle.section_equal.proofs.texts.blocks.Given as goal

abbrev pub invariant-loop-count : goal.invariant-loop-count
invariant-loop-count l = record {
  within : l.count ≤ l.bound;
  agree : Agree l.old l.new l.ends.old_end l.ends.new_end
      l.count;
}

abbrev pub decreases-loop-count : goal.decreases-loop-count
decreases-loop-count l = l.bound - l.count
