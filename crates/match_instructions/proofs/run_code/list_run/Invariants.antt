use Rattle.std.proofs.Common.{◌-◌, ◌^◌}
use Rattle.match_instructions.specs.inside.Met.{Lists}
use Rattle.match_instructions.proofs.run_code.list_run.Given as goal

abbrev pub invariant-loop-instruction : goal.invariant-loop-instruction
invariant-loop-instruction g l = Lists (g.S.Space.contents l.space) l.base l.count l.list.places l.list.end

abbrev pub decreases-loop-instruction : goal.decreases-loop-instruction
decreases-loop-instruction g l = 2 ^ 32 - l.list.end
