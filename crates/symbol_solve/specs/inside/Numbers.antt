-- Candidates as choices whose claims and demands are numbers: unknowns are numbered, and so are the interiors of
-- sections that candidates refer to.
use Rattle.std.specs.Prelude.{◌≡◌, ℕ, ◌<◌, Bool, false, ◌&&◌, ◌==◌, if◌then◌else◌}
use Rattle.std.specs.Prelude.{List, [], slice_index_or, length, map, All, Option, Some, None, Result}
use Rattle.std.specs.Option.{option_map, unwrap_or}
use Rattle.std.specs.List.{filter, filter_map, position, range_with_len, slice_get, Contains}
use Rattle.symbol_table.specs.declared.values.Unknown.{Unknown}
use Rattle.symbol_table.specs.Unknowns.{same_unknown}
use Rattle.i386_reloc.specs.declared.types.NormalSection.{NormalSection}
use Rattle.i386_reloc.specs.Places.{place_named}
use Rattle.run_pre_match.specs.declared.types.Claim.{Claim}
use Rattle.run_pre_match.specs.declared.types.Interior.{Interior}
use Rattle.run_pre_match.specs.declared.types.Matched.{Matched}
use Rattle.run_pre_match.specs.declared.types.MatchFault.{MatchFault}
use Rattle.run_pre_match.specs.Candidate.{Candidate, same_number, Body, is_number_of}
use Rattle.run_pre_match.specs.Matched.{outcome}
use Rattle.propagation.specs.declared.choice.Choice.{Choice}
use Rattle.propagation.specs.declared.choice.Claim as numbered
use Rattle.propagation.specs.declared.choice.Demand.{Demand}
use Rattle.match_candidates.specs.Candidates.{is_match}
use Rattle.symbol_solve.specs.Clashes.{claims_in, interiors_in}
use Rattle.symbol_solve.specs.declared.numbers.Point.{Point}

-- all unknowns that are claimed, and all interiors that are referred to, each once
pub record Numbers : Type 0 where
  pub unknowns : List Unknown
  pub points : List Point

abbrev pub number_of : List Unknown → Unknown → ℕ
number_of unknowns unknown = unwrap_or (position (same_unknown unknown) unknowns) 0

abbrev pub same_point : Point → Point → Bool
same_point a b = a.place == b.place && (a.offset == b.offset && a.address == b.address)

abbrev pub point_number : List Point → Point → ℕ
point_number points point = unwrap_or (position (same_point point) points) 0

abbrev pub claim_of : Numbers → Claim → numbered.Claim
claim_of numbers claim = record { unknown = number_of numbers.unknowns claim.unknown; value = claim.value }

-- the interior of the section at a place
abbrev pub point_at : Interior → ℕ → Point
point_at i place = record { place = place; offset = i.offset; address = i.address }

abbrev pub demand_at : Numbers → Point → Demand
demand_at numbers point = record { section = point.place; number = point_number numbers.points point }

abbrev pub point_of : List NormalSection → Interior → Option Point
point_of object i = option_map (point_at i) (place_named object i.section)

abbrev pub demand_of : List NormalSection → Numbers → Interior → Option Demand
demand_of object numbers i = option_map (demand_at numbers) (point_of object i)

-- whether a candidate is of the section of a point, and the point's address stands in its body for its offset
abbrev pub meets_point : Candidate → Point → Bool
meets_point c p = p.place == c.place && same_number c p.offset p.address

abbrev pub meets : Candidate → Option Point → Bool
meets c None = false
meets c (Some p) = meets_point c p

-- the demands that a candidate meets
abbrev pub met_among : Numbers → Candidate → List ℕ
met_among numbers c = filter (λ n. meets c (slice_get numbers.points n)) (range_with_len 0 (length numbers.points))

-- whether a point is of the section at a place
abbrev pub is_at : ℕ → Option Point → Bool
is_at place None = false
is_at place (Some p) = p.place == place

-- the numbers of the points of the section at a place: of the first ones, and of all
abbrev pub points_below : List Point → ℕ → ℕ → List ℕ
points_below points bound place = filter (λ n. is_at place (slice_get points n)) (range_with_len 0 bound)

abbrev pub points_at : List Point → ℕ → List ℕ
points_at points place = points_below points (length points) place

-- that a table has these lists by place
abbrev pub AreListed : List Point → ℕ → List (List ℕ) → Type 0
AreListed points bound table =
    (place : ℕ) (d : List ℕ) → place < length table → slice_index_or table place d ≡ points_below points bound place

-- whether a point's address stands in a body for its offset
abbrev pub stands : Body → Option Point → Bool
stands body None = false
stands body (Some p) = is_number_of body p.offset p.address

-- those of some points of which this holds
abbrev pub standing : List Point → Body → List ℕ → List ℕ
standing points body own = filter (λ n. stands body (slice_get points n)) own

-- the choice of a section, a home, what came of them, and the demands that are met
abbrev pub choice_from : List NormalSection → Numbers → ℕ → ℕ → Result Matched MatchFault → List ℕ → Choice
choice_from object numbers place home outcome met = record {
  section = place;
  home = home;
  matches = is_match outcome;
  claims = map (claim_of numbers) (claims_in outcome);
  demands = filter_map (demand_of object numbers) (interiors_in outcome);
  met = if is_match outcome then met else [];
}

-- a candidate as a choice
unfoldable pub choice_of : List NormalSection → Numbers → Candidate → Choice
choice_of object numbers c = choice_from object numbers c.place c.home (outcome c) (met_among numbers c)

-- that an unknown has a number, and that the point of an interior has one, where the object has its section
abbrev pub IsUnknownNumbered : Numbers → Claim → Type 0
IsUnknownNumbered numbers claim = Contains numbers.unknowns claim.unknown

abbrev pub HasPoint : List Point → Option Point → Type 0
HasPoint points None = Unit {0}
HasPoint points (Some p) = Contains points p

abbrev pub IsInteriorNumbered : List NormalSection → Numbers → Interior → Type 0
IsInteriorNumbered object numbers i = HasPoint numbers.points (point_of object i)

-- all that is claimed and referred to has a number
pub record IsNumbered
    (object : List NormalSection) (numbers : Numbers) (came : Result Matched MatchFault) : Type 0 where
  pub claims : All (IsUnknownNumbered numbers) (claims_in came)
  pub interiors : All (IsInteriorNumbered object numbers) (interiors_in came)

-- that what has a number keeps one
pub record Grows (old new : Numbers) : Type 0 where
  pub unknowns : (unknown : Unknown) → Contains old.unknowns unknown → Contains new.unknowns unknown
  pub points : (point : Point) → Contains old.points point → Contains new.points point

-- that choices are those of candidates, by numbers that all of them have
pub record AreNumbered (object : List NormalSection) (cs : List Candidate) (choices : List Choice) : Type 0 where
  pub numbers : Numbers
  pub numbered : All (λ c. IsNumbered object numbers (outcome c)) cs
  pub are : choices ≡ map (choice_of object numbers) cs
