use Rattle.run_pre_match.proofs.Verdicts.{inside_judged}
use Rattle.run_pre_match.proofs.candidate.Candidate.judge_inside.Goals as goal

pub returns : goal.returns
returns g c = λ before kept keeps.
    rw (c.closed.ensures, c.holding.ensures)
    (inside_judged c.args.self.now before kept c.args.place c.args.offset c.args.value c.is_met.result c.is_met.ensures
    keeps)
