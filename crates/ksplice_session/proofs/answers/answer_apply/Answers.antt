use Rattle.ks_io.specs.Loads.{bytes_of}
use Rattle.ksplice_session.specs.Replies.{apply_told}
use Rattle.ksplice_session.proofs.LiveAnswers.{open_answers}
use Rattle.ksplice_session.proofs.TryLaws.{apply_unturned}
use Rattle.ksplice_session.proofs.answers.answer_apply.Goals as goal

pub returns-in-Err : goal.returns-in-Err
returns-in-Err c =
    let k = c.args.session.now in
    let held = bytes_of c.args.held.now in
    open_answers k (apply_told k.machine c.args.name.now c.args.tries c.args.gap held) c.in-Err.refusal
    c.refused.result (apply_unturned k.machine c.args.name.now c.args.tries c.args.gap held)
    c.in-Err.ensures.refused c.refused.ensures
