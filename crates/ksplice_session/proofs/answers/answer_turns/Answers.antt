use Rattle.std.proofs.Common.{refl}
use Rattle.ksplice_session.proofs.AnswerLaws.{told_answers, told_turns}
use Rattle.ksplice_session.proofs.answers.answer_turns.Goals as goal

pub returns : goal.returns
returns c =
    let k = c.args.session.now in
    told_answers k c.run_turns-made.new.self c.turns_reply.result c.told.result
    (told_turns k c.args.quantum c.args.count) refl
    (rw (← c.run_turns-made.ensures.made) c.turns_reply.ensures) c.run_turns-made.ensures.after c.told.ensures
