use Rattle.ksplice_session.proofs.AnswerLaws.{read_answers, told_watch}
use Rattle.ksplice_session.proofs.answers.answer_watch.Goals as goal

pub returns : goal.returns
returns c =
    let k = c.args.session.now in
    read_answers k c.watch_reply.result c.told.result (told_watch k) c.watch_reply.ensures c.told.ensures
