use Rattle.std.proofs.Common.{List, ℕ, subst}
use Rattle.std.specs.List.{IsDistinct}
use Rattle.std.specs.List.Sorted.{IsPermutation}
use Rattle.ksplice_calls.proofs.Solutions.{nothing_moved}
use Rattle.ksplice_calls.proofs.solution.no_bodies.Goals as goal

pub new-requires-2 : goal.new-requires-2
unfolding IsDistinct
new-requires-2 c = rw c.new.ensures.items tt

pub returns : goal.returns
returns c =
    nothing_moved c.new-2.result
    (subst (λ (rows : List (ℕ × ℕ)). IsPermutation rows c.new-2.result) c.new.ensures.items c.new-2.ensures.rows)
