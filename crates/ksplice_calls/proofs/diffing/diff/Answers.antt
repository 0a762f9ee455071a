use Rattle.std.proofs.Common.{[], ◌∷◌, refl}
use Rattle.ks_io.specs.Loads.{bytes_of}
use Rattle.ksplice_session.specs.Replies.{object_limit}
use Rattle.call_words.specs.Words.{Diff}
use Rattle.ksplice_calls.proofs.CallAnswers.{lost_answers, two_held, diff_answers}
use Rattle.ksplice_calls.proofs.diffing.diff.Goals as goal

pub returns-in-Ok-clause-answers : goal.returns-in-Ok-clause-answers
returns-in-Ok-clause-answers g c =
    diff_answers c.args.pre.now c.args.post.now c.deref.result.now c.deref-in-Ok.result.now
    (bytes_of c.in-Ok.held.items)
    (two_held c.in-Ok.held.items c.index.result.now c.index-in-Ok.result.now _ _ c.in-Ok.ensures.loads.0
    c.index.ensures c.deref.ensures.value c.index-in-Ok.ensures c.deref-in-Ok.ensures.value)
    c.in-Ok.ensures.loads.1 c.print_difference.ensures.answer

pub returns-in-Err-clause-answers : goal.returns-in-Err-clause-answers
returns-in-Err-clause-answers g c =
    lost_answers (Diff c.args.pre.now c.args.post.now)
    (record { name = c.args.pre; limit = object_limit } ∷ record { name = c.args.post; limit = object_limit } ∷ [])
    c.in-Err.lost refl c.in-Err.ensures.loads c.end_with_file.ensures.answer
