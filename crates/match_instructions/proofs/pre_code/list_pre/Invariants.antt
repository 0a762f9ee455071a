use Rattle.std.proofs.Common.{◌-◌}
use Rattle.match_instructions.proofs.PreLists.{HasMet}
use Rattle.match_instructions.proofs.pre_code.list_pre.Given as goal

abbrev pub invariant-loop-instruction : goal.invariant-loop-instruction
invariant-loop-instruction l = HasMet l.section l.list

abbrev pub decreases-loop-instruction : goal.decreases-loop-instruction
decreases-loop-instruction l = l.section.size - l.list.end
