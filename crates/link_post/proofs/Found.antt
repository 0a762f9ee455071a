-- What a map of values finds.
use Rattle.std.proofs.Common.{◌≡◌, List, [], ◌∷◌, cond, Some, refl, ap, ◌∙◌}
use Rattle.std.specs.Map.{lookup}
use Rattle.symbol_table.specs.declared.values.Unknown.{Unknown}
use Rattle.symbol_table.specs.declared.values.Unknown.TheVariants.{Code, Data, Outside}
use Rattle.symbol_table.specs.declared.values.Solved.{Solved}
use Rattle.symbol_table.specs.contracts.values.UnknownPartialEq.TheImpl as impl
use Rattle.symbol_table.specs.Unknowns.{same_unknown}
use Rattle.link_post.specs.Values.{solved_as}

pub equal_is_same : (a b : Unknown) → (impl.eq-value).it a b ≡ same_unknown a b
equal_is_same (Code a) (Code b) = refl
equal_is_same (Code a) (Data b) = refl
equal_is_same (Code a) (Outside b) = refl
equal_is_same (Data a) (Code b) = refl
equal_is_same (Data a) (Data b) = refl
equal_is_same (Data a) (Outside b) = refl
equal_is_same (Outside a) (Code b) = refl
equal_is_same (Outside a) (Data b) = refl
equal_is_same (Outside a) (Outside b) = refl

pub looked_up : (which : Unknown) (values : List (Unknown × Solved))
    → lookup ((impl.eq-value).it which) values ≡ solved_as values which
looked_up which [] = refl
looked_up which (pair ∷ values) =
    ap (λ b. cond b (Some pair.1) (lookup ((impl.eq-value).it which) values)) (equal_is_same which pair.0)
    ∙ ap (λ o. cond (same_unknown which pair.0) (Some pair.1) o) (looked_up which values)
