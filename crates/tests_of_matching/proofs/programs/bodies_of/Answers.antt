use Rattle.std.proofs.Common.{ℕ, nat_eq, List, [], ◌∷◌, sym, subst}
use Rattle.std.specs.List.{IsDistinct}
use Rattle.symbol_table.specs.Bodies.{homes}
use Rattle.tests_of_matching.proofs.programs.bodies_of.Goals as goal

none_are_distinct : IsDistinct nat_eq (homes [])
unfolding IsDistinct
none_are_distinct = tt

one_is_distinct : (row : ℕ × ℕ) → IsDistinct nat_eq (homes (row ∷ []))
unfolding IsDistinct
one_is_distinct row = (tt, tt)

pub new-requires-in_default : goal.new-requires-in_default
new-requires-in_default c =
    let P : List (ℕ × ℕ) → Type 0 = λ rows. IsDistinct nat_eq (homes rows) in
    subst P (sym c.new.ensures.items) none_are_distinct

pub new-requires-2 : goal.new-requires-2
new-requires-2 c =
    let P : List (ℕ × ℕ) → Type 0 = λ rows. IsDistinct nat_eq (homes rows) in
    subst P (sym c.in_ok-rows.ensures.items) (one_is_distinct c.in-Some.row)
