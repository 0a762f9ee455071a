-- What is tested of choices before they are propagated.
use Rattle.std.specs.Prelude.{ℕ, Bool, true, not, ◌&&◌, ◌||◌, ◌==◌, nat_lt, List, [], ◌∷◌}
use Rattle.std.specs.List.{list_all}
use Rattle.propagation.specs.declared.choice.Claim.{Claim}
use Rattle.propagation.specs.declared.choice.Choice.{Choice}

-- whether each number is below all later ones
unfoldable pub rise : List ℕ → Bool
rise [] = true
rise (x ∷ xs) = list_all (nat_lt x) xs && rise xs

abbrev pub agree_with : Claim → Claim → Bool
agree_with a b = not (a.unknown == b.unknown) || a.value == b.value

-- whether no two claims give one unknown two values
abbrev pub agree : List Claim → Bool
agree claims = list_all (λ a. list_all (agree_with a) claims) claims

abbrev pub are_single : List Choice → Bool
are_single choices = list_all (λ choice. agree choice.claims && rise choice.met) choices

abbrev pub comes_before : Choice → Choice → Bool
comes_before a b = nat_lt a.section b.section || (a.section == b.section && nat_lt a.home b.home)

-- whether each choice stands before all later ones
unfoldable pub stand_in_order : List Choice → Bool
stand_in_order [] = true
stand_in_order (x ∷ xs) = list_all (comes_before x) xs && stand_in_order xs
