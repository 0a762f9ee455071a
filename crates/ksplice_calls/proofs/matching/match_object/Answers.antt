use Rattle.std.proofs.Common.{[], ◌∷◌, ◌∙◌, ap, refl, sym}
use Rattle.ks_io.specs.Loads.{bytes_of}
use Rattle.ksplice_session.specs.Replies.{object_limit}
use Rattle.ksplice_calls.specs.Calls.{image_limit}
use Rattle.call_words.specs.Words.{Match}
use Rattle.ksplice_calls.proofs.CallAnswers.{lost_answers, match_answers}
use Rattle.ksplice_calls.proofs.matching.match_object.Goals as goal

pub returns-in-Ok-clause-answers : goal.returns-in-Ok-clause-answers
returns-in-Ok-clause-answers g c =
    match_answers c.args.image.now c.args.pre.now c.two_files-image.result.0.items c.deref.result.now
    (bytes_of c.in-Ok.held.items)
    (c.two_files-image.ensures ∙ ap
    (λ bytes. c.two_files-image.result.0.items ∷ bytes ∷ []) (sym c.deref.ensures.value))
    c.in-Ok.ensures.loads.1 c.print_solution.ensures.answer

pub returns-in-Err-clause-answers : goal.returns-in-Err-clause-answers
returns-in-Err-clause-answers g c =
    lost_answers (Match c.args.image.now c.args.pre.now)
    (record { name = c.args.image; limit = image_limit } ∷ record { name = c.args.pre; limit = object_limit } ∷ [])
    c.in-Err.lost refl c.in-Err.ensures.loads c.end_with_file.ensures.answer
