use Rattle.std.proofs.Common.{◌-◌}
use Rattle.match_instructions.specs.PreCode.{pre_code}
use Rattle.match_instructions.specs.Landing.{goes_astray}
use Rattle.match_instructions.proofs.PreLists.{HasNoted}
use Rattle.match_instructions.proofs.landing.astray_offset.Given as goal

abbrev pub invariant-loop-instruction : goal.invariant-loop-instruction
invariant-loop-instruction l = HasNoted (goes_astray (pre_code l.section)) l.section l.first l.offset

abbrev pub decreases-loop-instruction : goal.decreases-loop-instruction
decreases-loop-instruction l = l.section.size - l.offset
