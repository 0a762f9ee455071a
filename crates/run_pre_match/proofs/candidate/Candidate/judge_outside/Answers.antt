-- The first value is kept already, or this is it.
use Rattle.std.proofs.Common.{refl, sym, ap, ◌∙◌, cond, Some}
use Rattle.i386_reloc.specs.Normal.{same_bytes}
use Rattle.run_pre_match.specs.Candidate.{Candidate}
use Rattle.run_pre_match.specs.Found.{is_listed}
use Rattle.run_pre_match.specs.inside.Kept.{first_of}
use Rattle.run_pre_match.proofs.Verdicts.{outside_known, outside_new}
use Rattle.run_pre_match.proofs.candidate.Candidate.judge_outside.Goals as goal

pub returns-in-Some-clause-judges : goal.returns-in-Some-clause-judges
returns-in-Some-clause-judges g c = λ before keeps.
    rw c.closed.ensures
    (outside_known c.args.self.now before c.args.values.now c.args.name.now c.args.value c.in-Some.first.now
    c.verdict.result
    (sym (c.in-Some.ensures.value ∙ ap (first_of c.args.values.now.outsides) c.as_slice-bytes.ensures))
    c.verdict.ensures keeps)

pub returns-clause-judges : goal.returns-clause-judges
returns-clause-judges g c = λ before keeps.
    rw c.closed-2.ensures
    (outside_new c.args.self.now before c.args.values.now _ c.args.name.now c.args.value c.is_global-holds.result
    c.verdict-2.result
    (sym (c.in_default.ensures.value ∙ ap (first_of c.args.values.now.outsides) c.as_slice-bytes.ensures))
    (c.is_global-holds.ensures
    ∙ ap (λ n. is_listed c.self.inside.table.now.symbols n c.args.value)
    (c.in_ok-from_slice.ensures ∙ c.as_slice-bytes.ensures)
    ∙ ap (λ (x : Candidate). is_listed x.symbols c.args.name.now c.args.value) c.self.view_is)
    c.verdict-2.ensures
    (λ q. c.in_ok-put_name.ensures q ∙ ap (λ n. cond (same_bytes n q)
    (Some (record { value = c.args.value; holds = c.is_global-holds.result }))
    (first_of c.args.values.now.outsides q)) c.as_slice-bytes.ensures)
    refl refl refl keeps)
