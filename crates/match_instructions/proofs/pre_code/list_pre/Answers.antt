use Rattle.std.proofs.Common.{sym}
use Rattle.match_instructions.proofs.PreLists.{none_met, met_more, all_met}
use Rattle.match_instructions.proofs.pre_code.list_pre.Goals as goal

pub loop-instruction-init : goal.loop-instruction-init
loop-instruction-init c = rw c.new.ensures.none (none_met c.args.section.now)

pub loop-instruction-preserved : goal.loop-instruction-preserved
loop-instruction-preserved c =
    met_more c.args.section.now c.loop-instruction.list c.take.new.self c.in-Some.instruction
    (c.instructions_lie_within.ensures c.args.section.now) (sym c.in-Some.ensures.at) c.loop-instruction.invariant
    c.in_ok-take.ensures.places c.in_ok-take.ensures.end c.in_ok-take.ensures.misplaced c.in_ok-take.ensures.below

pub returns : goal.returns
returns c = all_met c.args.section.now c.loop-instruction.list c.in_default.ensures.at c.loop-instruction.invariant
