-- The first two items that clash, by the order of their sections and then by their order within these.
use Rattle.std.specs.Prelude.{if◌then◌else◌, List, [], ◌∷◌, Option, Some, None}
use Rattle.std.specs.Option.{option_or}
use Rattle.propagation.specs.Rounds.{Rules}

-- what a function gives first for the items of a list
unfoldable pub first_some : {X Y : Type 0} → (X → Option Y) → List X → Option Y
first_some f [] = None
first_some f (x ∷ xs) = option_or (f x) (first_some f xs)

-- what it gives first for an item of one list and one of another, by the first one and then the second one
abbrev pub first_of_two : {X Y : Type 0} → (X → X → Option Y) → List X → List X → Option Y
first_of_two f ones others = first_some (λ x. first_some (f x) others) ones

-- what it gives first for the items of two of some lists, by the first list, the second list, and then the items
unfoldable pub first_between : {X Y : Type 0} → (X → X → Option Y) → List (List X) → Option Y
first_between f [] = None
first_between f (ones ∷ rest) = option_or (first_some (first_of_two f ones) rest) (first_between f rest)

abbrev pub clashing : {X : Type 0} → Rules X → X → X → Option (X × X)
clashing rules x y = if rules.clashes x y then Some (x, y) else None

-- the first two items of different lists that clash
abbrev pub conflict : {X : Type 0} → Rules X → List (List X) → Option (X × X)
conflict rules sections = first_between (clashing rules) sections
