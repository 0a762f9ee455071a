use Rattle.match_instructions.proofs.Undecoded.{least_fault}
use Rattle.match_instructions.proofs.landing.undecoded_offset.Goals as goal

pub returns : goal.returns
returns c = λ object named.
    least_fault object c.args.section.now c.args.list.now c.args.named.now
    c.broken_offset-first.result c.astray_offset.result c.unmet_offset.result c.empty_offset.result
    c.lesser-first.result c.lesser-first-2.result c.lesser-first-3.result c.lesser.result
    c.requires.list named c.broken_offset-first.ensures c.astray_offset.ensures c.unmet_offset.ensures
    c.empty_offset.ensures
    c.lesser-first.ensures c.lesser-first-2.ensures c.lesser-first-3.ensures c.lesser.ensures
