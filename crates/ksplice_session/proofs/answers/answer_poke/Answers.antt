use Rattle.std.proofs.Common.{List, ℕ, refl, ◌∙◌, ap}
use Rattle.ks_io.specs.Loads.{bytes_of}
use Rattle.update_stack.specs.Events.{Apply}
use Rattle.ksplice_session.specs.Lines.{marked_lines}
use Rattle.ksplice_session.specs.Replies.{live_of, poke_told}
use Rattle.ksplice_session.proofs.AnswerLaws.{told_answers, refused_answers}
use Rattle.ksplice_session.proofs.LiveAnswers.{two_held, told_marked, told_mark_refused, none_poked, marked_session}
use Rattle.ksplice_session.proofs.answers.answer_poke.Goals as goal

pub returns-in-Ok : goal.returns-in-Ok
returns-in-Ok c =
    let k = c.args.session.now in
    let now = c.mark.new.self in
    let name = c.args.name.now in
    let pre = c.as_slice.result.now in
    let post = c.as_slice-2.result.now in
    let report = c.in-Ok.report in
    let two = two_held c.args.held.now c.pre-item.result c.post-item.result pre post c.requires
    c.pre-item.is c.post-item.is c.as_slice.ensures.value c.as_slice-2.ensures.value in
    told_answers k now c.marked_reply.result c.told.result
    (ap (λ (held : List (List ℕ)). poke_told (live_of k) name held) two
    ∙ told_marked k now name pre post report c.in-Ok.ensures.answered)
    refl c.marked_reply.ensures
    (marked_session k now (Apply name pre post) (marked_lines name report) c.in-Ok.ensures.noted) c.told.ensures

pub returns-in-Err : goal.returns-in-Err
returns-in-Err c =
    let k = c.args.session.now in
    let now = c.mark.new.self in
    let name = c.args.name.now in
    let pre = c.as_slice.result.now in
    let post = c.as_slice-2.result.now in
    let held = bytes_of c.args.held.now in
    let two = two_held c.args.held.now c.pre-item.result c.post-item.result pre post c.requires
    c.pre-item.is c.post-item.is c.as_slice.ensures.value c.as_slice-2.ensures.value in
    refused_answers k now (poke_told (live_of k) name held) c.in-Err.refusal c.refused.result
    (λ _. c.in-Err.ensures.refused)
    (λ other. ap (λ (files : List (List ℕ)). poke_told (live_of k) name files) two
    ∙ told_mark_refused k name pre post c.in-Err.refusal (c.in-Err.ensures.answered other))
    (none_poked k now name pre post held two c.in-Err.ensures.refused) c.refused.ensures
