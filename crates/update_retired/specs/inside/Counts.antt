-- How many ranges there are of a kind.
use Rattle.std.specs.Prelude.{◌≡◌, ℕ, Bool, nat_lt, if◌then◌else◌, List, ◌++◌, map, length}
use Rattle.std.specs.List.{filter}
use Rattle.ks_base.specs.declared.places.Range.{Range}
use Rattle.update_retired.specs.declared.types.OldFunction.{OldFunction}
use Rattle.update_retired.specs.Retired.{body_range}

-- how many items pass a test
abbrev pub how_many : {X : Type 0} → (X → Bool) → List X → ℕ
how_many test xs = length (filter test xs)

abbrev pub low_of : Range → ℕ
low_of range = range.low

abbrev pub high_of : Range → ℕ
high_of range = range.high

-- a range has an address
abbrev pub is_full : Range → Bool
is_full range = nat_lt range.low range.high

-- the lows and the highs of the ranges that aren't empty
abbrev pub lows_of : List Range → List ℕ
lows_of ranges = map low_of (filter is_full ranges)

abbrev pub highs_of : List Range → List ℕ
highs_of ranges = map high_of (filter is_full ranges)

-- numbers in any order
abbrev pub AreCounted : List ℕ → List ℕ → Type 0
AreCounted numbers others = (test : ℕ → Bool) → how_many test others ≡ how_many test numbers

-- what a new range may meet: the bodies of the functions, and the ranges that are retired already
abbrev pub all_ranges : List OldFunction → List Range → List Range
all_ranges olds retired = map body_range olds ++ retired

-- how many bodies meet what is retired of a function because they are its own: its own, where it isn't empty
abbrev pub own_count : OldFunction → ℕ
own_count old = if nat_lt 0 old.length then 1 else 0
