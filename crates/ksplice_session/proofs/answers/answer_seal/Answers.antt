use Rattle.std.proofs.Common.{[], refl}
use Rattle.script_lines.specs.declared.types.Command.TheVariants.{Seal}
use Rattle.live_poke.specs.Poke.{newest_name}
use Rattle.ksplice_session.specs.Lines.{sealed_line}
use Rattle.ksplice_session.specs.Replies.{told_of}
use Rattle.ksplice_session.proofs.AnswerLaws.{told_answers}
use Rattle.ksplice_session.proofs.LiveAnswers.{told_sealed, told_seal_refused, written_session, write_refused}
use Rattle.ksplice_session.proofs.answers.answer_seal.Goals as goal

pub returns-in-Ok : goal.returns-in-Ok
returns-in-Ok c =
    let k = c.args.session.now in
    let now = c.seal.new.self in
    told_answers k now c.sealed_reply.result c.told.result (told_sealed k now c.in-Ok.ensures.answered) refl
    c.sealed_reply.ensures (written_session k now (sealed_line (newest_name now.machine)) c.in-Ok.ensures.turned)
    c.told.ensures

pub returns-in-Err : goal.returns-in-Err
returns-in-Err c =
    let k = c.args.session.now in
    write_refused k c.seal.new.self (told_of k Seal []) c.in-Err.refusal c.refused.result c.in-Err.ensures.refused
    (told_seal_refused k c.in-Err.refusal c.in-Err.ensures.answered) c.refused.ensures
