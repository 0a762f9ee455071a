-- What the outside is to this program: files that may be given, bytes that a sink may show as taken,
-- and counts of what went wrong, by which an answer that isn't Ok is known to have its cause outside.
use Rattle.std.specs.Prelude.{◌≡◌, ◌≢◌, ℕ, ◌+◌, ◌-◌, ◌^◌, ◌≤◌, ◌<◌, min, Option}
use Rattle.std.specs.Prelude.{Some, None, IsSomeAnd, List, [], ◌++◌, length}

-- how often a load found no file, a file longer than its limit, and a fault of the outside
pub record Counts : Type 0 where
  pub absences : ℕ
  pub excesses : ℕ
  pub faults : ℕ

abbrev pub no_counts : Counts
no_counts = record { absences = 0; excesses = 0; faults = 0 }

-- a count that rises by one, and stops at 2^64 - 1
abbrev pub raised : ℕ → ℕ
raised count = min (count + 1) (2 ^ 64 - 1)

-- a count rose in a call; one that stands at 2^64 - 1 counts as risen
abbrev pub Rose : ℕ → ℕ → Type 0
Rose before now = raised before ≤ now

abbrev pub NeverFall : Counts → Counts → Type 0
NeverFall before now =
    (before.absences ≤ now.absences) × (before.excesses ≤ now.excesses) × (before.faults ≤ now.faults)

-- there is a file, and it is longer than the limit
abbrev pub IsLonger : ℕ → Option (List ℕ) → Type 0
IsLonger limit file = IsSomeAnd file (λ bytes. limit < length bytes)

-- absences rose only where there is no file, and excesses only where the file is longer than the limit
abbrev pub CountsTell : Option (List ℕ) → ℕ → Counts → Counts → Type 0
CountsTell file limit before now =
    (before.absences < now.absences → file ≡ None) × (before.excesses < now.excesses → IsLonger limit file)

-- what a sink has taken, where it shows that, after it took more
abbrev pub grown : Option (List ℕ) → List ℕ → Option (List ℕ)
grown None more = None
grown (Some taken) more = Some (taken ++ more)

-- some prefix of a piece was taken, maybe none of it and maybe all
pub record TookFront (old : Option (List ℕ)) (piece : List ℕ) (new : Option (List ℕ)) : Type 0 where
  pub front : List ℕ
  pub rest : List ℕ
  pub splits : front ++ rest ≡ piece
  pub taken : new ≡ grown old front

-- some prefix of a piece was taken, maybe none of it, and not all
pub record TookPart (old : Option (List ℕ)) (piece : List ℕ) (new : Option (List ℕ)) : Type 0 where
  pub front : List ℕ
  pub rest : List ℕ
  pub splits : front ++ rest ≡ piece
  pub cut : rest ≢ []
  pub taken : new ≡ grown old front
