-- Ranges of addresses, and lists of things that each have one.
use Rattle.std.specs.Prelude.{◌≡◌, ℕ, ◌≤◌, ◌<◌, Bool, false, ◌&&◌, ◌==◌, if◌then◌else◌}
use Rattle.std.specs.Prelude.{List, [], ◌∷◌, nat_le, nat_lt, min, max}
use Rattle.std.specs.List.{list_any}
use mathlib.Core.HLevel.{Unit-prop}
use native.Mathlib.Bridge.{le_prop}
use Rattle.ks_base.specs.declared.places.Range.{Range}

-- the range from an address up to another, which is not in it
abbrev pub from_to : (low high : ℕ) → Range
from_to low high = record { low = low; high = high }

-- whether an address is one of a range's
abbrev pub lies_in : ℕ → Range → Bool
lies_in address range = nat_le range.low address && nat_lt address range.high

-- whether two ranges are one
abbrev pub are_same : Range → Range → Bool
are_same a b = (a.low == b.low) && (a.high == b.high)

-- whether a range is one of some
abbrev pub is_one_of : List Range → Range → Bool
is_one_of ranges range = list_any (are_same range) ranges

-- whether two ranges share an address
abbrev pub meets : Range → Range → Bool
meets a b = nat_lt (max a.low b.low) (min a.high b.high)

-- a range shares no address with that of any of some things
abbrev pub MeetsNone : {X : Type 0} → (X → Range) → Range → List X → Type 0
MeetsNone range own xs = list_any (λ x. meets own (range x)) xs ≡ false

-- a thing put among things, before the first that begins above it
abbrev pub put_in : {X : Type 0} → (X → Range) → X → List X → List X
put_in range x [] = x ∷ []
put_in range x (y ∷ ys) = if nat_lt (range x).low (range y).low then x ∷ y ∷ ys else y ∷ put_in range x ys

-- the things' ranges begin at floor or above, ascend and don't meet, and none is empty
abbrev pub Ascends : {X : Type 0} → (X → Range) → ℕ → List X → Type 0
Ascends range floor [] = Unit {0}
Ascends range floor (x ∷ xs) = (floor ≤ (range x).low) × ((range x).low < (range x).high)
    × Ascends range (range x).high xs

pub Ascends-prop : {X : Type 0} (range : X → Range) (floor : ℕ) (xs : List X) → IsProp (Ascends range floor xs)
Ascends-prop range floor [] = Unit-prop
Ascends-prop range floor (x ∷ xs) =
    let rest = Ascends-prop range (range x).high xs in
    hlevel (le_prop, rest)
