use Rattle.std.proofs.Common.{ℕ, nat_eq, List, [], ◌∷◌, refl, sym, subst}
use Rattle.std.specs.List.{IsDistinct}
use Rattle.symbol_table.specs.Bodies.{homes}
use Rattle.tests_of_images.proofs.symbols.homes_have_their_newest_base.Goals as goal

rows_are_distinct : IsDistinct nat_eq (homes ((0x30, 0x900) ∷ (0x10, 0x700) ∷ (0x20, 0x800) ∷ []))
unfolding IsDistinct
rows_are_distinct = ((refl, (refl, tt)), ((refl, tt), (tt, tt)))

pub new-bodies-requires : goal.new-bodies-requires
new-bodies-requires g c =
    let P : List (ℕ × ℕ) → Type 0 = λ rows. IsDistinct nat_eq (homes rows) in
    subst P (sym c.in_ok-vec.ensures.items) rows_are_distinct
