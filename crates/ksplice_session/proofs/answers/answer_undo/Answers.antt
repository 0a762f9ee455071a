use Rattle.std.proofs.Common.{[], refl}
use Rattle.script_lines.specs.declared.types.Command.TheVariants.{Undo}
use Rattle.update_stack.specs.Events.{Undo as UndoEvent}
use Rattle.ksplice_session.specs.Replies.{told_of}
use Rattle.ksplice_session.proofs.AnswerLaws.{told_answers, refused_answers}
use Rattle.ksplice_session.proofs.AnswerLaws.{one_event, told_undone, told_undo_refused, told_undo_unturned}
use Rattle.ksplice_session.proofs.LiveAnswers.{none_told, told_undo_open, write_refused}
use Rattle.ksplice_session.proofs.answers.answer_undo.Goals as goal

pub returns-in-Err : goal.returns-in-Err
returns-in-Err c =
    let k = c.args.session.now in
    refused_answers k k (told_of k Undo []) c.in-Err.refusal c.refused.result (λ _. refl)
    (λ other. told_undo_open k c.in-Err.refusal (c.in-Err.ensures.refused other))
    (none_told k k (told_of k Undo []) (told_undo_unturned k) refl) c.refused.ensures

pub returns-in-Ok : goal.returns-in-Ok
returns-in-Ok c =
    let k = c.args.session.now in
    let now = c.undo.new.self in
    told_answers k now c.undone_reply.result c.told.result
    (told_undone k now.machine c.in-Ok.name c.in_default.ensures.done c.in-Ok.ensures.answered) refl
    c.undone_reply.ensures (one_event k now UndoEvent c.in-Ok.ensures.noted) c.told.ensures

pub returns-in-Err-undo : goal.returns-in-Err-undo
returns-in-Err-undo c =
    let k = c.args.session.now in
    write_refused k c.undo.new.self (told_of k Undo []) c.in-Err-undo.refusal
    c.refused-in-Err-undo.result c.in-Err-undo.ensures.refused
    (told_undo_refused k c.in-Err-undo.refusal c.in_default.ensures.done c.in-Err-undo.ensures.answered)
    c.refused-in-Err-undo.ensures
