use Rattle.std.proofs.Common.{[], ◌∷◌, refl}
use Rattle.ks_io.specs.Loads.{bytes_of}
use Rattle.ksplice_calls.specs.Calls.{image_limit}
use Rattle.call_words.specs.Words.{Code}
use Rattle.ksplice_calls.proofs.CallAnswers.{lost_answers, one_held, code_answers}
use Rattle.ksplice_calls.proofs.image_code.code.Goals as goal

pub returns-in-Ok-clause-answers : goal.returns-in-Ok-clause-answers
returns-in-Ok-clause-answers g c =
    code_answers c.args.image.now c.args.name.now c.deref.result.now (bytes_of c.in-Ok.held.items)
    (one_held c.in-Ok.held.items c.index.result.now _ c.in-Ok.ensures.loads.0 c.index.ensures c.deref.ensures.value)
    c.in-Ok.ensures.loads.1 c.print_code.ensures.answer

pub returns-in-Err-clause-answers : goal.returns-in-Err-clause-answers
returns-in-Err-clause-answers g c =
    lost_answers (Code c.args.image.now c.args.name.now) (record { name = c.args.image; limit = image_limit } ∷ [])
    c.in-Err.lost refl c.in-Err.ensures.loads c.end_with_file.ensures.answer
