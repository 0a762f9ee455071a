use Rattle.std.proofs.Common.{[], ◌∷◌, refl}
use Rattle.ks_io.specs.Loads.{bytes_of}
use Rattle.ksplice_calls.specs.Calls.{image_limit, script_limit}
use Rattle.call_words.specs.Words.{Run}
use Rattle.ksplice_calls.proofs.CallAnswers.{lost_answers, run_answers}
use Rattle.ksplice_calls.proofs.session_run.run.Goals as goal

pub returns-in-Ok-clause-answers : goal.returns-in-Ok-clause-answers
returns-in-Ok-clause-answers g c =
    run_answers c.args.image.now c.args.script.now c.two_files-image.result.0.items c.two_files-image.result.1.items
    (bytes_of c.in-Ok.held.items) c.two_files-image.ensures
    c.in-Ok.ensures.loads.1 c.load_all.ensures.kept.told_kept c.print_session.ensures.answers

pub returns-in-Err-clause-answers : goal.returns-in-Err-clause-answers
returns-in-Err-clause-answers g c =
    lost_answers (Run c.args.image.now c.args.script.now) (record { name = c.args.image; limit = image_limit }
    ∷ record { name = c.args.script; limit = script_limit } ∷ [])
    c.in-Err.lost refl c.in-Err.ensures.loads c.end_with_file.ensures.answer
