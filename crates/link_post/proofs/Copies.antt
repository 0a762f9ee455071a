-- A copy of values is the same values.
use Rattle.std.proofs.Common.{◌≡◌, List, [], ◌∷◌, refl, sym, ap, ◌∙◌}
use Rattle.std.specs.List.{AllZip, each_same}
use Rattle.symbol_table.specs.declared.values.Unknown.{Unknown}
use Rattle.symbol_table.specs.declared.values.Unknown.TheVariants.{Code, Data, Outside}
use Rattle.symbol_table.specs.declared.values.Solved.{Solved}
use Rattle.symbol_table.specs.contracts.values.UnknownClone.TheImpl as cloned

same_unknowns : (a b : Unknown) → (cloned.ghosts).is_clone a b → b ≡ a
same_unknowns (Code a) (Code b) copy =
    ap Code (sym copy.3 ∙ each_same copy.0.items.items copy.1.items.items copy.4.0 ∙ copy.2)
same_unknowns (Code a) (Data b) copy = absurd copy
same_unknowns (Code a) (Outside b) copy = absurd copy
same_unknowns (Data a) (Code b) copy = absurd copy
same_unknowns (Data a) (Data b) copy =
    ap Data (sym copy.3 ∙ each_same copy.0.items.items copy.1.items.items copy.4.0 ∙ copy.2)
same_unknowns (Data a) (Outside b) copy = absurd copy
same_unknowns (Outside a) (Code b) copy = absurd copy
same_unknowns (Outside a) (Data b) copy = absurd copy
same_unknowns (Outside a) (Outside b) copy = ap Outside
    (sym copy.3 ∙ each_same copy.0.items.items copy.1.items.items copy.4.0 ∙ copy.2)

pub same_values : (xs ys : List (Unknown × Solved))
    → AllZip (λ p q. (cloned.ghosts).is_clone p.0 q.0 × (q.1 ≡ p.1)) xs ys → ys ≡ xs
same_values [] [] copies = refl
same_values [] (y ∷ ys) copies = absurd copies
same_values (x ∷ xs) [] copies = absurd copies
same_values (x ∷ xs) (y ∷ ys) copies =
    let key : y.0 ≡ x.0 = same_unknowns x.0 y.0 copies.0.0 in
    let value : y.1 ≡ x.1 = copies.0.1 in
    let rest : ys ≡ xs = same_values xs ys copies.1 in
    λ i. (key i, value i) ∷ rest i
