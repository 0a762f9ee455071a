-- Laws of what places stand for, by the lists of places.
use Rattle.std.proofs.Common.{◌≡◌, ℕ, ◌+◌, Bool, true, false, not, ◌||◌, nat_le, cond, List, [], ◌∷◌, map, refl, sym}
use Rattle.std.proofs.Common.{ap}
use Rattle.std.proofs.lemmas.List.{length-map}
use Rattle.std.specs.List.{list_any, filter, position, position_or_len}
use Rattle.match_instructions.specs.Instructions.{Instruction, place_of, is_left_out, kept_of, begins_at, stands_for}
use Rattle.match_instructions.specs.Places.{is_place, places_of, number_in}

or_inner : (a b c : Bool) → (a || (b || c)) ≡ ((a || b) || c)
or_inner true b c = refl
or_inner false b c = refl

or_outer : (a b c : Bool) → (a || (b || c)) ≡ (b || (a || c))
or_outer true true c = refl
or_outer true false c = refl
or_outer false b c = refl

-- whether a list with one more has a place
any_more : (here rest one other kept : Bool) → rest ≡ (one || other) →
    (here || rest) ≡ (cond kept (here || one) one || cond (not kept) (here || other) other)
any_more here rest one other true is = rw is (or_inner here one other)
any_more here rest one other false is = rw is (or_outer here one other)

any_kept : (place : ℕ) (i : Instruction) (is : List Instruction) (b : Bool)
    → list_any (is_place place) (map place_of (cond b (i ∷ is) is))
    ≡ cond b (is_place place i.place || list_any (is_place place) (map place_of is))
    (list_any (is_place place) (map place_of is))
any_kept place i is true = refl
any_kept place i is false = refl

-- an instruction begins at a place, kept or padding
any_place : (is : List Instruction) (place : ℕ) →
    list_any (begins_at place) is ≡ (list_any (is_place place) (map place_of (kept_of is))
    || list_any (is_place place) (map place_of (filter is_left_out is)))
any_place [] place = refl
any_place (i ∷ is) place =
    rw (any_kept place i (kept_of is) i.kept, any_kept place i (filter is_left_out is) (not i.kept))
    (any_more (is_place place i.place) (list_any (begins_at place) is)
    (list_any (is_place place) (map place_of (kept_of is)))
    (list_any (is_place place) (map place_of (filter is_left_out is))) i.kept (any_place is place))

first_place : (is : List Instruction) (place : ℕ) →
    position_or_len (λ i. nat_le place i.place) is ≡ position_or_len (nat_le place) (map place_of is)
first_place [] place = refl
first_place (i ∷ is) place = ap (λ n. cond (not (nat_le place i.place)) (1 + n) 0) (first_place is place)

number_place : (is : List Instruction) (place : ℕ) →
    position (λ i. nat_le place i.place) is ≡ position (nat_le place) (map place_of is)
number_place is place =
    rw (first_place is place, sym (length-map is place_of)) refl

-- What a place stands for follows from the two lists of places.
pub stands_for_by : (is : List Instruction) (place : ℕ) → stands_for is place ≡ number_in (places_of is) place
unfolding stands_for number_in
stands_for_by is place = rw (any_place is place, number_place (kept_of is) place) refl
