use Rattle.std.proofs.Common.{ap, ◌∙◌, take, drop}
use Rattle.i386_reloc.specs.Places.{bytes_at}
use Rattle.run_pre_match.specs.Candidate.{Candidate}
use Rattle.match_constants.specs.Constants.{stand_at}
use Rattle.run_pre_match.proofs.Verdicts.{text_here}
use Rattle.run_pre_match.proofs.candidate.Candidate.judge_text.Goals as goal

pub returns-clause-judges : goal.returns-clause-judges
returns-clause-judges g c = λ before keeps.
    rw (c.closed.ensures, c.holding.ensures)
    (text_here c.args.self.now before _ c.args.text.place c.args.text.offset c.args.text.len c.args.value
    (bytes_at c.args.self.now.object c.args.text.place)
    (g.S.Space.contents c.self.inside.space.now).pieces c.text_stands-stands.result c.requires.within
    (ap (λ (x : Candidate). x.contents.pieces) c.self.view_is)
    (c.text_stands-stands.ensures.stands ∙ ap
    (λ (x : Candidate). stand_at (g.S.Space.contents c.self.inside.space.now).pieces c.args.value
    (take c.args.text.len (drop c.args.text.offset (bytes_at x.object c.args.text.place))) c.args.text.len)
    c.self.view_is)
    (record {
      entries = keeps.entries;
      variables = keeps.variables;
      constants = keeps.constants;
      outsides = keeps.outsides;
    }))
