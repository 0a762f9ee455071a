use Rattle.std.proofs.Common.{◌∙◌}
use Rattle.std.proofs.lemmas.Result.{err_from_is_err_and}
use Rattle.match_candidates.proofs.TriedLaws.{mismatch_kept}
use Rattle.match_candidates.proofs.trying.try_section.Goals as goal

pub returns-in_err-check_matches-clause-refused : goal.returns-in_err-check_matches-clause-refused
returns-in_err-check_matches-clause-refused g c =
    let p = err_from_is_err_and c.from_residual-in_err-check_matches.result
    c.from_residual-in_err-check_matches.ensures.1 in
    let same = mismatch_kept c.args.running.now c.args.code.now c.args.number c.args.homes.now c.deref.result.now
    (c.deref.ensures.value ∙ c.in_ok-own.ensures) c.requires in
    rw (p.1, p.2) (λ other. same ∙ c.in_err-check_matches.ensures.refused other)

pub returns-clause-ok : goal.returns-clause-ok
returns-clause-ok g c =
    mismatch_kept c.args.running.now c.args.code.now c.args.number c.args.homes.now c.deref.result.now
    (c.deref.ensures.value ∙ c.in_ok-own.ensures) c.requires
    ∙ c.in_ok-check_matches.ensures.ok
