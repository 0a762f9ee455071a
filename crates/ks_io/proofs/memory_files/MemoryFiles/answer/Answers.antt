-- Where the number isn't one of the failing ones, no answer is Failed.
use Rattle.std.proofs.lemmas.Result.{err_from_is_err_and}
use Rattle.ks_io.proofs.memory_files.MemoryFiles.answer.Goals as goal

pub returns-in-Some-clause-fails : goal.returns-in-Some-clause-fails
returns-in-Some-clause-fails c = (λ e. (cc), λ t. (cc))

pub returns-in_err-extend_from_slice-in-Some-2-clause-fails : goal.returns-in_err-extend_from_slice-in-Some-2-clause-fails
returns-in_err-extend_from_slice-in-Some-2-clause-fails c =
    let p = err_from_is_err_and c.from_residual.result c.from_residual.ensures.1 in
    (λ e. (cc), λ t. (cc))

pub returns-in_ok-extend_from_slice-in-Some-2-clause-fails : goal.returns-in_ok-extend_from_slice-in-Some-2-clause-fails
returns-in_ok-extend_from_slice-in-Some-2-clause-fails c = (λ e. (cc), λ t. (cc))
