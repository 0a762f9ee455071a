use Rattle.symbol_solve.specs.inside.Left.{IsOf, IsOneOf, AreHeldUpTo}
use Rattle.symbol_solve.proofs.left.marked.Given as goal

abbrev pub invariant-loop-i : goal.invariant-loop-i
invariant-loop-i l =
    AreHeldUpTo (λ c h. IsOf h.code.now c h.tried.now) (IsOneOf l.codes) l.tried l.left l.i l.held.items
