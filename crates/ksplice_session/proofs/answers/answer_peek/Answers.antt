use Rattle.ksplice_session.proofs.AnswerLaws.{read_answers, told_peek}
use Rattle.ksplice_session.proofs.answers.answer_peek.Goals as goal

pub returns : goal.returns
returns c =
    let k = c.args.session.now in
    read_answers k c.peek_reply.result c.told.result
    (told_peek k c.args.address c.args.count) c.peek_reply.ensures c.told.ensures
