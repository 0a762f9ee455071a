use Rattle.std.proofs.Common.{refl}
use Rattle.ks_io.specs.Loads.{bytes_of}
use Rattle.update_stack.specs.Events.{Hooks}
use Rattle.ksplice_session.specs.Replies.{hooks_told}
use Rattle.ksplice_session.proofs.AnswerLaws.{told_answers, refused_answers, one_event}
use Rattle.ksplice_session.proofs.LiveAnswers.{open_answers, closed_answers, none_told, two_held}
use Rattle.ksplice_session.proofs.HookLaws.{hooks_unturned, told_hooked, told_hooks_refused}
use Rattle.ksplice_session.proofs.answers.answer_hooks.Goals as goal

pub returns-in-Err : goal.returns-in-Err
returns-in-Err c =
    let k = c.args.session.now in
    let name = c.args.name.now in
    let held = bytes_of c.args.held.now in
    open_answers k (hooks_told k.machine name held) c.in-Err.refusal c.refused.result
    (hooks_unturned k.machine name held) c.in-Err.ensures.refused c.refused.ensures

pub returns-in-Ok : goal.returns-in-Ok
returns-in-Ok c =
    let k = c.args.session.now in
    let now = c.apply_with_hooks.new.self in
    let name = c.args.name.now in
    let pre = c.as_slice.result.now in
    let post = c.as_slice-2.result.now in
    let held = bytes_of c.args.held.now in
    let two = two_held c.args.held.now c.pre-item.result c.post-item.result pre post c.requires
    c.pre-item.is c.post-item.is c.as_slice.ensures.value c.as_slice-2.ensures.value in
    closed_answers k now (hooks_told k.machine name held) c.told.result c.in_default.ensures.done
    (told_answers k now c.hooked_reply.result c.told.result
    (told_hooked k now.machine name pre post held c.in-Ok.done two c.in-Ok.ensures.answered) refl
    c.hooked_reply.ensures (one_event k now (Hooks name pre post) c.in-Ok.ensures.noted) c.told.ensures)

pub returns-in-Err-apply_with_hooks : goal.returns-in-Err-apply_with_hooks
returns-in-Err-apply_with_hooks c =
    let k = c.args.session.now in
    let now = c.apply_with_hooks.new.self in
    let name = c.args.name.now in
    let pre = c.as_slice.result.now in
    let post = c.as_slice-2.result.now in
    let held = bytes_of c.args.held.now in
    let told = hooks_told k.machine name held in
    let came = c.in-Err-apply_with_hooks.ensures in
    let result = c.refused-in-Err-apply_with_hooks.result in
    let two = two_held c.args.held.now c.pre-item.result c.post-item.result pre post c.requires
    c.pre-item.is c.post-item.is c.as_slice.ensures.value c.as_slice-2.ensures.value in
    closed_answers k now told result c.in_default.ensures.done
    (refused_answers k now told c.in-Err-apply_with_hooks.refusal result (λ _. came.refused)
    (λ other. told_hooks_refused k name pre post held c.in-Err-apply_with_hooks.refusal two (came.answered other))
    (none_told k now told (hooks_unturned k.machine name held) came.refused)
    c.refused-in-Err-apply_with_hooks.ensures)
