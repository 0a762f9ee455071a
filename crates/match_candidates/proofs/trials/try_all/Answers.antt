use Rattle.std.proofs.Common.{Some, None, sym, ap, ◌∙◌}
use Rattle.std.proofs.lemmas.Result.{err_from_is_err_and}
use Rattle.match_candidates.specs.inside.Trying.{missing_among}
use Rattle.match_candidates.proofs.OwnLaws.{fault_undecoded, fault_missing, fault_mismatch, are_all_tried}
use Rattle.match_candidates.proofs.trials.try_all.Goals as goal

pub returns-in_err-codes-clause-refused : goal.returns-in_err-codes-clause-refused
returns-in_err-codes-clause-refused g c =
    let p = err_from_is_err_and c.from_residual.result c.from_residual.ensures.1 in
    rw (p.1, p.2) (λ other. fault_undecoded c.args.running.now c.args.object.now c.in_err-codes.field-0.0
    (c.in_err-codes.ensures.refused other))

pub returns-in_err-homes-clause-refused : goal.returns-in_err-homes-clause-refused
returns-in_err-homes-clause-refused g c =
    let p = err_from_is_err_and c.from_residual-in_err-homes.result c.from_residual-in_err-homes.ensures.1 in
    rw (p.1, p.2) (λ other. fault_missing c.args.running.now c.args.object.now c.as_slice.result.now
    c.in_err-homes.field-0.0
    (c.as_slice.ensures ∙ c.in_ok-codes.ensures.codes) c.in_ok-codes.ensures.ok (c.in_err-homes.ensures.refused other))

pub returns-in_err-tried-clause-refused : goal.returns-in_err-tried-clause-refused
returns-in_err-tried-clause-refused g c =
    let p = err_from_is_err_and c.from_residual-in_err-tried.result c.from_residual-in_err-tried.ensures.1 in
    let none = ap (λ l. missing_among c.args.running.now l) (c.as_slice-2.ensures ∙ sym c.as_slice.ensures)
    ∙ c.in_ok-homes.ensures.ok in
    rw (p.1, p.2) (λ other. fault_mismatch c.args.running.now c.args.object.now c.as_slice-2.result.now
    (Some c.in_err-tried.field-0.0)
    (c.as_slice-2.ensures ∙ c.in_ok-codes.ensures.codes) c.in_ok-codes.ensures.ok none
    (c.in_err-tried.ensures.refused other))

pub returns-clause-tried : goal.returns-clause-tried
returns-clause-tried g c =
    are_all_tried c.args.running.now c.args.object.now c.as_slice-2.result.now c.in_ok-tried.tried.items
    (c.as_slice-2.ensures ∙ c.in_ok-codes.ensures.codes) c.in_ok-tried.ensures.tried

pub returns-clause-ok : goal.returns-clause-ok
returns-clause-ok g c =
    let none = ap (λ l. missing_among c.args.running.now l) (c.as_slice-2.ensures ∙ sym c.as_slice.ensures)
    ∙ c.in_ok-homes.ensures.ok in
    fault_mismatch c.args.running.now c.args.object.now c.as_slice-2.result.now None
    (c.as_slice-2.ensures ∙ c.in_ok-codes.ensures.codes) c.in_ok-codes.ensures.ok none c.in_ok-tried.ensures.ok
