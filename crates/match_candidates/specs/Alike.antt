-- Running programs in which an object has the same candidates, but for the memories that these hold.
use Rattle.std.specs.Prelude.{◌≡◌, ℕ}
use Rattle.symbol_table.specs.Bodies.{newest}
use Rattle.run_pre_match.specs.Alike.{AreAlike}
use Rattle.match_candidates.specs.Candidates.{Running}

-- Their memories are alike, their symbols the same, and each home has the same newest base.
pub record RunAlike (one other : Running) : Type 0 where
  pub memory : AreAlike one.contents other.contents
  pub symbols : one.symbols ≡ other.symbols
  pub bases : (home : ℕ) → newest one.bodies home ≡ newest other.bodies home
