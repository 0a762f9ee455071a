use Rattle.std.proofs.Common.{◌≤◌, length, refl, sym}
use Rattle.std.proofs.lemmas.Option.{slice_get_past, slice_get_read}
use Rattle.symbol_solve.specs.inside.Left.{IsOneOf}
use Rattle.symbol_solve.proofs.HeldLaws.{zip_none, one_at, none_at}
use Rattle.symbol_solve.proofs.left.held_at.Goals as goal
use borrow.Author.Tests.{ltb-true, ltb-false}

pub returns-in_err-tried-clause-none : goal.returns-in_err-tried-clause-none
returns-in_err-tried-clause-none c =
    let past : length c.args.tried.now ≤ c.args.place =
    ltb-false c.args.place (length c.args.tried.now) (sym c.in_err-tried.ensures.lookup.0) in
    rw (c.from_residual.ensures)
    (λ cs all. zip_none (IsOneOf c.args.codes.now) cs c.args.tried.now c.args.place all
    (slice_get_past c.args.tried.now c.args.place past))

pub returns-in_err-code-clause-none : goal.returns-in_err-code-clause-none
returns-in_err-code-clause-none c =
    let here = c.in_ok-tried.ensures.lookup in
    let past : length c.args.codes.now ≤ c.in_ok-tried.tried.now.section =
    ltb-false c.in_ok-tried.tried.now.section (length c.args.codes.now) (sym c.in_err-code.ensures.lookup.0) in
    rw (c.from_residual-in_err-code.ensures)
    (λ cs all. none_at c.args.codes.now c.args.tried.now c.args.place c.in_ok-tried.tried.now
    (slice_get_read c.args.tried.now (length c.args.tried.now) c.args.place c.in_ok-tried.tried.now refl
    (ltb-true c.args.place (length c.args.tried.now) (sym here.0)) here.1)
    (slice_get_past c.args.codes.now c.in_ok-tried.tried.now.section past) cs all)

pub returns-clause-some : goal.returns-clause-some
returns-clause-some c = λ cs all.
    let one = c.in_ok-tried.ensures.lookup in
    let two = c.in_ok-code.ensures.lookup in
    one_at c.args.codes.now c.args.tried.now c.args.place c.in_ok-tried.tried.now c.in_ok-code.code.now
    (slice_get_read c.args.tried.now (length c.args.tried.now) c.args.place c.in_ok-tried.tried.now refl
    (ltb-true c.args.place (length c.args.tried.now) (sym one.0)) one.1)
    (slice_get_read c.args.codes.now (length c.args.codes.now) c.in_ok-tried.tried.now.section c.in_ok-code.code.now
    refl (ltb-true c.in_ok-tried.tried.now.section (length c.args.codes.now) (sym two.0)) two.1)
    cs all
