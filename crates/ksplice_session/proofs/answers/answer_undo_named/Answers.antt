use Rattle.std.proofs.Common.{[], refl}
use Rattle.script_lines.specs.declared.types.Command.TheVariants.{UndoNamed}
use Rattle.update_stack.specs.Events.{UndoNamed as UndoNamedEvent}
use Rattle.ksplice_session.specs.Replies.{told_of}
use Rattle.ksplice_session.proofs.AnswerLaws.{told_answers, refused_answers, one_event}
use Rattle.ksplice_session.proofs.AnswerLaws.{told_undone_named, told_undo_named_refused, told_undo_named_unturned}
use Rattle.ksplice_session.proofs.LiveAnswers.{none_told, told_undo_named_open}
use Rattle.ksplice_session.proofs.answers.answer_undo_named.Goals as goal

pub returns-in-Err : goal.returns-in-Err
returns-in-Err c =
    let k = c.args.session.now in
    let name = c.args.name.now in
    refused_answers k k (told_of k (UndoNamed name) []) c.in-Err.refusal c.refused.result (λ _. refl)
    (λ other. told_undo_named_open k name c.in-Err.refusal (c.in-Err.ensures.refused other))
    (none_told k k (told_of k (UndoNamed name) []) (told_undo_named_unturned k name) refl) c.refused.ensures

pub returns-in-Ok : goal.returns-in-Ok
returns-in-Ok c =
    let k = c.args.session.now in
    let name = c.args.name.now in
    let now = c.undo_named.new.self in
    told_answers k now c.undone_reply.result c.told.result
    (told_undone_named k now.machine name c.in_default.ensures.done c.in-Ok.ensures.answered) refl
    c.undone_reply.ensures (one_event k now (UndoNamedEvent name) c.in-Ok.ensures.noted) c.told.ensures

pub returns-in-Err-undo_named : goal.returns-in-Err-undo_named
returns-in-Err-undo_named c =
    let k = c.args.session.now in
    let name = c.args.name.now in
    let now = c.undo_named.new.self in
    refused_answers k now (told_of k (UndoNamed name) []) c.in-Err-undo_named.refusal
    c.refused-in-Err-undo_named.result (λ _. c.in-Err-undo_named.ensures.refused)
    (λ other. told_undo_named_refused k name c.in-Err-undo_named.refusal c.in_default.ensures.done
    (c.in-Err-undo_named.ensures.answered other))
    (none_told k now (told_of k (UndoNamed name) []) (told_undo_named_unturned k name)
    c.in-Err-undo_named.ensures.refused)
    c.refused-in-Err-undo_named.ensures
