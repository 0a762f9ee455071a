use Rattle.ksplice_calls.proofs.Sessions.{session_answers, no_session_answers}
use Rattle.ksplice_calls.proofs.session_run.print_session.Goals as goal

pub returns-in-Ok-clause-answers : goal.returns-in-Ok-clause-answers
returns-in-Ok-clause-answers g c =
    session_answers c.args.image.items c.args.script.items c.in-Ok.session c.in-Ok.script
    _ _ _ _ _ _ c.run_session.result _ c.in-Ok.ensures.session c.run_session.ensures.ends c.status_of.ensures

pub returns-in-Err-clause-answers : goal.returns-in-Err-clause-answers
returns-in-Err-clause-answers g c =
    no_session_answers c.args.image.items c.args.script.items
    c.in-Err.refusal _ _ _ _ _ c.in-Err.ensures.session c.refuse.ensures.answer c.refuse.ensures.memory
