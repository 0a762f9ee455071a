use Rattle.ksplice_session.proofs.AnswerLaws.{read_answers, told_list}
use Rattle.ksplice_session.proofs.answers.answer_list.Goals as goal

pub returns : goal.returns
returns c =
    let k = c.args.session.now in
    read_answers k c.list_reply.result c.told.result (told_list k) c.list_reply.ensures c.told.ensures
