use Rattle.ksplice_session.proofs.AnswerLaws.{read_answers, told_threads}
use Rattle.ksplice_session.proofs.answers.answer_threads.Goals as goal

pub returns : goal.returns
returns c =
    let k = c.args.session.now in
    read_answers k c.threads_reply.result c.told.result (told_threads k) c.threads_reply.ensures c.told.ensures
