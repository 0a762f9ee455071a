-- The section at the place, or none.
use Rattle.std.proofs.Common.{◌∙◌, ap, length}
use Rattle.run_pre_match.specs.Candidate.{Candidate}
use Rattle.match_constants.specs.Constants.{lie_in_constants, stand_but_for_fields}
use Rattle.run_pre_match.specs.Found.{section_lies, section_stands}
use Rattle.run_pre_match.proofs.candidate.Candidate.lies.Goals as goal

pub returns-in-Some-clause-whole : goal.returns-in-Some-clause-whole
returns-in-Some-clause-whole g c =
    c.lies_at.ensures.whole
    ∙ ap (λ (x : Candidate). lie_in_constants x.contents.pieces c.args.value (length c.in-Some.section.now.bytes))
    c.self.view_is
    ∙ ap (section_lies c.args.self.now c.args.value) c.in-Some.ensures.found

pub returns-in-Some-clause-equal : goal.returns-in-Some-clause-equal
returns-in-Some-clause-equal g c =
    c.lies_at.ensures.equal
    ∙ ap (λ (x : Candidate). stand_but_for_fields x.contents.pieces c.args.value c.in-Some.section.now.refs
    c.in-Some.section.now.bytes (length c.in-Some.section.now.bytes)) c.self.view_is
    ∙ ap (section_stands c.args.self.now c.args.value) c.in-Some.ensures.found

pub returns-in-None-clause-whole : goal.returns-in-None-clause-whole
returns-in-None-clause-whole g c = ap (section_lies c.args.self.now c.args.value) c.in-None.ensures.found

pub returns-in-None-clause-equal : goal.returns-in-None-clause-equal
returns-in-None-clause-equal g c = ap (section_stands c.args.self.now c.args.value) c.in-None.ensures.found
