use Rattle.std.proofs.Common.{ap, ◌∙◌, Some}
use Rattle.match_instructions.specs.Landing.{all_offsets}
use Rattle.run_pre_match.proofs.CodeLaws.{offsets_here, comes_code}
use Rattle.run_pre_match.proofs.code.PreObject.code.Goals as goal

pub returns-in-Some : goal.returns-in-Some
returns-in-Some c section at _ =
    let me = c.args.self.now in
    let here = c.section-section.ensures.at in
    let named = offsets_here me c.self.inside.named.items c.args.place c.section-section.result.now c.index.result.now
    (c.self.invariant.0 ∙ ap all_offsets c.self.view_is) here c.index.ensures in
    comes_code me c.args.place c.section-section.result.now section c.undecoded_offset.result
    (Some c.in-Some.offset) here at
    (c.undecoded_offset.ensures me (c.as_slice.ensures ∙ named)) c.in-Some.is
