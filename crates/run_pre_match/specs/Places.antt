-- Where in its object a match says what it says: the places of the fields that count, at which its claims and interiors
-- stand.
use Rattle.std.specs.Prelude.{◌≡◌, ◌≢◌, ◌↔◌, ℕ, List, ◌∷◌, Some}
use Rattle.std.specs.List.{AllPairs, Contains, slice_get}
use Rattle.ks_base.specs.declared.places.Spot.{Spot}
use Rattle.i386_reloc.specs.declared.types.Ref.{Ref}
use Rattle.i386_reloc.specs.declared.types.NormalSection.{NormalSection}
use Rattle.run_pre_match.specs.declared.goals.Goal.TheVariants.{Constant}
use Rattle.run_pre_match.specs.declared.goals.Given.{Given}
use Rattle.run_pre_match.specs.declared.types.Claim.{Claim}
use Rattle.run_pre_match.specs.declared.types.Interior.{Interior}
use Rattle.run_pre_match.specs.Candidate.{Candidate, Pair, pairs}
use Rattle.run_pre_match.specs.Found.{given_in_pair, given_in_constant}
use Rattle.run_pre_match.specs.Matched.{spot_at, unknown_of, home_claim}
use Rattle.run_pre_match.specs.Match.{Valuation, IsField, IsNamed}

-- The fields that count (IsField), each at its place: a field of the code stands in the candidate's section, and one of
-- a read-only section, to which a field that counts goes, in that section.
pub data IsFieldAt (c : Candidate) (v : Valuation) : Spot → Given → Type 0 where
  AtCode : (pair : Pair) (r : Ref) → Contains (pairs c) pair → Contains pair.pre.references r →
      IsFieldAt c v (spot_at c.section.name r.offset) (given_in_pair c pair r)
  AtConstant : (field : Given) (place base : ℕ) (section : NormalSection) (r : Ref) →
      IsField c v field → field.goal ≡ Constant place → v (Constant place) ≡ Some base →
      slice_get c.object place ≡ Some section → Contains section.refs r →
      IsFieldAt c v (spot_at section.name r.offset) (given_in_constant c base r)

-- a claim says, of what a field at its place goes to, the value that the field gives
pub record IsClaimAt (c : Candidate) (v : Valuation) (claim : Claim) : Type 0 where
  pub field : Given
  pub stands : IsFieldAt c v claim.place field
  pub speaks : unknown_of c field.goal ≡ Some claim.unknown
  pub gives : field.value ≡ claim.value

-- The claims of a match: the own home, at the start of the own section, and then all those that fields make, and no
-- other.
pub record StandAtFields (c : Candidate) (v : Valuation) (claims : List Claim) : Type 0 where
  pub others : List Claim
  pub parts : claims ≡ home_claim c ∷ others
  pub each : (claim : Claim) → (Contains others claim ↔ IsClaimAt c v claim)

-- an interior is where the field at its place goes
pub record IsInteriorAt (c : Candidate) (v : Valuation) (interior : Interior) : Type 0 where
  pub field : Given
  pub stands : IsFieldAt c v interior.place field
  pub named : IsNamed c interior field

-- no two references of a section stand at one offset
pub record HasFieldsApart (section : NormalSection) : Type 0 where
  pub apart : AllPairs (λ r other. r.offset ≢ other.offset) section.refs
