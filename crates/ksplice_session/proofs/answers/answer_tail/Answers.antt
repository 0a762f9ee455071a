use Rattle.std.proofs.Common.{[], refl}
use Rattle.script_lines.specs.declared.types.Command.TheVariants.{Tail}
use Rattle.live_poke.specs.Poke.{newest_name}
use Rattle.ksplice_session.specs.Lines.{tailed_line}
use Rattle.ksplice_session.specs.Replies.{told_of}
use Rattle.ksplice_session.proofs.AnswerLaws.{told_answers}
use Rattle.ksplice_session.proofs.LiveAnswers.{told_tailed, told_tail_refused, written_session, write_refused}
use Rattle.ksplice_session.proofs.answers.answer_tail.Goals as goal

pub returns-in-Ok : goal.returns-in-Ok
returns-in-Ok c =
    let k = c.args.session.now in
    let now = c.tail.new.self in
    told_answers k now c.tailed_reply.result c.told.result (told_tailed k now c.in-Ok.ensures.answered) refl
    c.tailed_reply.ensures (written_session k now (tailed_line (newest_name now.machine)) c.in-Ok.ensures.turned)
    c.told.ensures

pub returns-in-Err : goal.returns-in-Err
returns-in-Err c =
    let k = c.args.session.now in
    write_refused k c.tail.new.self (told_of k Tail []) c.in-Err.refusal c.refused.result c.in-Err.ensures.refused
    (told_tail_refused k c.in-Err.refusal c.in-Err.ensures.answered) c.refused.ensures
