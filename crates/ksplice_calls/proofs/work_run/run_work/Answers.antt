use Rattle.std.proofs.Common.{◌≡◌, ◌∙◌, rules, ap}
use Rattle.ksplice_calls.specs.Answer.{Answer, Answered, answer_of}
use Rattle.ksplice_calls.proofs.WorkAnswers.{carried_out}
use Rattle.ksplice_calls.proofs.work_run.run_work.Goals as goal

pub returns-in-Ok-clause-answer : goal.returns-in-Ok-clause-answer
returns-in-Ok-clause-answer g c =
    let same : c.as_slice.result.now ≡ c.in-Ok.sum.text.items = search rules in
    Answered (answer_of c.as_slice.result.now c.in-Ok.sum.status.code)
    (ap (λ text. answer_of text c.in-Ok.sum.status.code) same ∙ c.in-Ok.ensures.answer) c.say.ensures.answer

pub returns-in-Ok-clause-status : goal.returns-in-Ok-clause-status
returns-in-Ok-clause-status g c =
    carried_out c.args.number c.say.result c.in-Ok.sum.status
    (ap (λ (answer : Answer). answer.status) c.in-Ok.ensures.answer) c.say.ensures.status
