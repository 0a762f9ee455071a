-- The first value is kept already, or this is it.
use Rattle.std.proofs.Common.{refl, sym}
use Rattle.run_pre_match.proofs.Verdicts.{entry_known, entry_new}
use Rattle.run_pre_match.proofs.candidate.Candidate.judge_entry.Goals as goal

pub returns-in-Some-clause-judges : goal.returns-in-Some-clause-judges
returns-in-Some-clause-judges g c = λ before keeps.
    rw c.closed.ensures
    (entry_known c.args.self.now before c.args.values.now c.args.place c.args.value c.in-Some.first.now c.verdict.result
    (sym c.in-Some.ensures.value) c.verdict.ensures keeps)

pub returns-clause-judges : goal.returns-clause-judges
returns-clause-judges g c = λ before keeps.
    rw c.closed-2.ensures
    (entry_new c.args.self.now before c.args.values.now _ c.args.place c.args.value
    (sym c.in_default.ensures.value) c.in_ok-put_place.ensures refl refl refl keeps)
