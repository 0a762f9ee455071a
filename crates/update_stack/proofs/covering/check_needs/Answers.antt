use Rattle.std.proofs.Common.{◌∙◌, ap}
use Rattle.std.proofs.lemmas.Result.{err_from_is_err_and}
use Rattle.i386_reloc.specs.Refused.{first_among}
use Rattle.update_stack.specs.Systems.{live_update}
use Rattle.update_stack.specs.Undo.{first_need}
use Rattle.update_stack.proofs.CoverLaws.{next_ahead, none_ahead, told_next, some_next}
use Rattle.update_stack.proofs.covering.check_needs.Goals as goal

pub returns-clause-found : goal.returns-clause-found
returns-clause-found c =
    c.loop-update.invariant.2
    ∙ ap (first_among (first_need c.args.ranges.now))
    (none_ahead c.loop-update.update-iterator c.next.new.self c.next.result c.in-None.is c.next.ensures.steps)

pub returns-in_err-check_needs_of-clause-found : goal.returns-in_err-check_needs_of-clause-found
returns-in_err-check_needs_of-clause-found c =
    let p = err_from_is_err_and c.from_residual.result c.from_residual.ensures.1 in
    let fault = first_need c.args.ranges.now in
    let next = next_ahead c.loop-update.update-iterator c.next.new.self c.next.result c.in-Some.update c.in-Some.one
    c.in-Some.is c.next.ensures.steps in
    rw (p.1, p.2)
    (λ known. told_next (fault (live_update c.in-Some.update.now c.in-Some.one.now)) _ _ _
    (c.loop-update.invariant.2 ∙ ap (first_among fault) next) (c.in_err-check_needs_of.ensures.found known))

pub returns-in_err-check_needs_of-clause-needed : goal.returns-in_err-check_needs_of-clause-needed
returns-in_err-check_needs_of-clause-needed c =
    let p = err_from_is_err_and c.from_residual.result c.from_residual.ensures.1 in
    let fault = first_need c.args.ranges.now in
    let next = next_ahead c.loop-update.update-iterator c.next.new.self c.next.result c.in-Some.update c.in-Some.one
    c.in-Some.is c.next.ensures.steps in
    rw p.1
    (some_next (fault (live_update c.in-Some.update.now c.in-Some.one.now)) _ _
    (c.loop-update.invariant.2 ∙ ap (first_among fault) next) c.in_err-check_needs_of.ensures.needed)
