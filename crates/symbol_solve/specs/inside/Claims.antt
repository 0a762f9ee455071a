-- The first claim of each thing.
use Rattle.std.specs.Prelude.{◌≡◌, Bool, List}
use Rattle.std.specs.Borrow.{Bor}
use Rattle.std.specs.List.{find, Contains}
use Rattle.std.specs.Option.{option_map}
use Rattle.std.specs.Map.{lookup}
use Rattle.symbol_table.specs.declared.values.Unknown.{Unknown}
use Rattle.symbol_table.specs.Unknowns.{same_unknown}
use Rattle.run_pre_match.specs.declared.types.Claim.{Claim}
use Rattle.run_pre_match.specs.Candidate.{Candidate}
use Rattle.symbol_solve.specs.Clashes.{claims_of}

-- whether a claim is of a thing
abbrev pub is_about : Unknown → Claim → Bool
is_about unknown claim = same_unknown claim.unknown unknown

-- that a map has of each thing the first of some claims
abbrev pub AreFirst : List (Unknown × Bor Claim) → List Claim → Type 0
AreFirst entries claims =
    (about : Unknown) → option_map (λ (claim : Bor Claim). claim.now) (lookup (same_unknown about) entries)
    ≡ find (is_about about) claims

-- that claims of one thing give it one value
abbrev pub GiveOneValue : List Claim → Type 0
GiveOneValue claims = (a b : Claim) → Contains claims a → Contains claims b → a.unknown ≡ b.unknown → a.value ≡ b.value

-- that those of a candidate do
abbrev pub IsAtOne : Candidate → Type 0
IsAtOne c = GiveOneValue (claims_of c)
