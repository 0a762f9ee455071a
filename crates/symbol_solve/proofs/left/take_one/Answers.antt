use Rattle.std.proofs.Common.{subst, sym, ◌∙◌}
use Rattle.std.proofs.lemmas.Option.{get_or_from_slice_get}
use Rattle.run_pre_match.specs.Matched.{PreSection}
use Rattle.symbol_solve.specs.declared.left.Held.{Held}
use Rattle.symbol_solve.specs.inside.Left.{IsOf, IsOneOf}
use Rattle.symbol_solve.proofs.HeldLaws.{taken, passed}
use Rattle.symbol_solve.proofs.left.take_one.Goals as goal

pub returns-in_ok-push : goal.returns-in_ok-push
returns-in_ok-push c = λ marks cs d same one before.
    rw (c.if-mark.true, c.in_ok-push.ensures.items)
    (taken (λ a (h : Held). IsOf h.code.now a h.tried.now)
    (IsOneOf c.args.codes.now) c.args.tried.now c.args.held.now.items _
    (λ a here. subst (λ (p : PreSection). IsOf p a c.args.tried.now) (sym (c.index-codes-tried.is
    ∙ get_or_from_slice_get c.args.codes.now c.args.tried.now.section here.pre _ here.code)) here.held)
    marks cs d same one before)

pub returns-else-mark : goal.returns-else-mark
returns-else-mark c = λ marks cs d same one before.
    rw (c.if-mark.false)
    (passed (λ a (h : Held). IsOf h.code.now a h.tried.now)
    (IsOneOf c.args.codes.now) c.args.tried.now c.args.held.now.items marks cs d same one before)
