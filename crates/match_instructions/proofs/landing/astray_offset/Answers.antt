use Rattle.std.proofs.Common.{sym}
use Rattle.match_instructions.specs.PreCode.{pre_code}
use Rattle.match_instructions.specs.Landing.{goes_astray}
use Rattle.match_instructions.proofs.PreLists.{none_noted, noted_next, all_noted}
use Rattle.match_instructions.proofs.landing.astray_offset.Goals as goal

pub loop-instruction-init : goal.loop-instruction-init
loop-instruction-init c = none_noted (goes_astray (pre_code c.args.section.now)) c.args.section.now

pub loop-instruction-preserved : goal.loop-instruction-preserved
loop-instruction-preserved c =
    let section = c.args.section.now in
    noted_next (goes_astray (pre_code section)) section c.loop-instruction.first c.noted-first.result
    c.loop-instruction.offset c.after-offset.result c.in-Some.instruction c.goes_astray.result
    (c.instructions_lie_within.ensures section) (sym c.in-Some.ensures.at) c.loop-instruction.invariant
    (c.goes_astray.ensures (pre_code section) c.requires.places) c.noted-first.ensures c.after-offset.ensures

pub returns : goal.returns
returns c = all_noted (goes_astray (pre_code c.args.section.now)) c.args.section.now c.loop-instruction.first
    c.loop-instruction.offset c.in_default.ensures.at c.loop-instruction.invariant
