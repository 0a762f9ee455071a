-- What a map of values has.
use Rattle.std.proofs.Common.{◌≡◌, Bool, true, false, ◌||◌, List, [], ◌∷◌, cond, Option, Some, None, refl, ap, ◌∙◌}
use Rattle.std.specs.Prelude.{is_some}
use Rattle.std.specs.Map.{lookup}
use Rattle.symbol_table.specs.declared.values.Unknown.{Unknown}
use Rattle.symbol_table.specs.declared.values.Unknown.TheVariants.{Code, Data, Outside}
use Rattle.symbol_table.specs.contracts.values.UnknownPartialEq.TheImpl as impl
use Rattle.symbol_table.specs.Unknowns.{same_unknown}
use Rattle.symbol_solve.specs.Solve.{Value, has_value}

pub equal_is_same : (a b : Unknown) → (impl.eq-value).it a b ≡ same_unknown a b
equal_is_same (Code a) (Code b) = refl
equal_is_same (Code a) (Data b) = refl
equal_is_same (Code a) (Outside b) = refl
equal_is_same (Data a) (Code b) = refl
equal_is_same (Data a) (Data b) = refl
equal_is_same (Data a) (Outside b) = refl
equal_is_same (Outside a) (Code b) = refl
equal_is_same (Outside a) (Data b) = refl
equal_is_same (Outside a) (Outside b) = refl

here : (value : Value) (o : Option _) (rest : Bool) (b : Bool)
    → is_some o ≡ rest → is_some (cond b (Some value.1) o) ≡ (b || rest)
here value o rest true is = refl
here value o rest false is = is

pub found : (unknown : Unknown) (values : List Value)
    → is_some (lookup ((impl.eq-value).it unknown) values) ≡ has_value values unknown
found unknown [] = refl
found unknown (value ∷ values) =
    ap (λ b. is_some (cond b (Some value.1) (lookup ((impl.eq-value).it unknown) values)))
    (equal_is_same unknown value.0)
    ∙ here value (lookup ((impl.eq-value).it unknown) values)
    (has_value values unknown) (same_unknown unknown value.0) (found unknown values)

pub none_of : {X : Type 0} (o : Option X) → is_some o ≡ false → o ≡ None
none_of None is = refl
none_of (Some x) is = absurd cc

pub not_found : (unknown : Unknown) (values : List Value)
    → has_value values unknown ≡ false → lookup ((impl.eq-value).it unknown) values ≡ None
not_found unknown values is = none_of (lookup ((impl.eq-value).it unknown) values) (found unknown values ∙ is)
