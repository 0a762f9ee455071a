use Rattle.std.proofs.Common.{◌≡◌, ◌<◌, length, arith}
use Rattle.std.proofs.lemmas.Result.{err_from_is_err_and}
use Rattle.match_candidates.proofs.CodeLaws.{passed_more, passed_to, passed_all, passed_without}
use Rattle.match_candidates.proofs.codes.all_codes.Goals as goal

pub returns-in_err-add_code-clause-refused : goal.returns-in_err-add_code-clause-refused
returns-in_err-add_code-clause-refused c =
    let p = err_from_is_err_and c.from_residual-in_err-add_code.result c.from_residual-in_err-add_code.ensures.1 in
    let sections = c.as_slice-section-items.result.now in
    let section = c.section-item in
    let lt : c.loop-place.place < length sections = omega arith in
    rw (p.1, p.2) (λ other. passed_to c.args.object.now c.in_ok-pre.pre sections c.loop-place.codes c.loop-place.place
    section.result c.in_err-add_code.field-0.0 c.in_ok-pre.ensures lt section.is c.loop-place.invariant
    (c.in_err-add_code.ensures.refused other))

pub loop-place-preserved : goal.loop-place-preserved
loop-place-preserved c =
    let sections = c.as_slice-section-items.result.now in
    let section = c.section-item in
    let lt : c.loop-place.place < length sections = omega arith in
    passed_more c.args.object.now c.in_ok-pre.pre sections c.loop-place.codes c.add_code.new.codes c.loop-place.place
    section.result c.in_ok-pre.ensures lt section.is c.loop-place.invariant
    c.in_ok-add_code.ensures.codes c.in_ok-add_code.ensures.ok

pub returns-clause-codes : goal.returns-clause-codes
returns-clause-codes c =
    let all : c.loop-place.place ≡ length c.as_slice-section-items.result.now = omega arith in
    passed_all c.args.object.now c.as_slice-section-items.result.now c.loop-place.codes c.loop-place.place all
    c.loop-place.invariant

pub returns-clause-ok : goal.returns-clause-ok
returns-clause-ok c =
    let all : c.loop-place.place ≡ length c.as_slice-section-items.result.now = omega arith in
    passed_without c.args.object.now c.as_slice-section-items.result.now c.loop-place.codes c.loop-place.place all
    c.loop-place.invariant
