-- Points by their addresses.
use Rattle.std.specs.Prelude.{◌≡◌, ℕ, ◌<◌, ◌≤◌, Bool, true, not, nat_lt, List, Option, Some, None}
use Rattle.std.specs.List.{filter, slice_get}
use Rattle.std.specs.List.Sorted.{IsNonDecreasingBy}
use Rattle.run_pre_match.specs.Candidate.{Body, is_number_of}
use Rattle.symbol_solve.specs.declared.numbers.Point.{Point}

-- that the addresses of points don't fall
abbrev pub AreInOrder : List Point → Type 0
AreInOrder points = IsNonDecreasingBy (λ (p : Point). p.address) points

-- the address of the point of a number, 0 where there is none
abbrev pub address_in : Option Point → ℕ
address_in None = 0
address_in (Some p) = p.address

abbrev pub address_at : List Point → ℕ → ℕ
address_at points n = address_in (slice_get points n)

-- that those of the points of some numbers don't fall
abbrev pub Ascend : List Point → List ℕ → Type 0
Ascend points own = IsNonDecreasingBy (address_at points) own

-- whether the point of a number lies before an address
abbrev pub is_before : List Point → ℕ → ℕ → Bool
is_before points address n = nat_lt (address_at points n) address

-- those of some points that lie before an address, those that lie at it or above it, and those between two
abbrev pub points_before : List Point → ℕ → List ℕ → List ℕ
points_before points high own = filter (is_before points high) own

abbrev pub points_from : List Point → ℕ → List ℕ → List ℕ
points_from points low own = filter (λ n. not (is_before points low n)) own

abbrev pub points_between : List Point → ℕ → ℕ → List ℕ → List ℕ
points_between points low high own = points_before points high (points_from points low own)

-- that addresses stand in a body for offsets only from one address on and before another
abbrev pub LiesIn : Body → ℕ → ℕ → Type 0
LiesIn body low high =
    (offset address : ℕ) → is_number_of body offset address ≡ true → (low ≤ address) × (address < high)
