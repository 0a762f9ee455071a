-- Which base is the newest of each home.
use Rattle.std.specs.Prelude.{ℕ, List, [], ◌∷◌, ◌==◌, if◌then◌else◌, map}

-- the newest base of a home: that of its row, or the home itself where it has none
abbrev pub newest : List (ℕ × ℕ) → ℕ → ℕ
newest [] home = home
newest (row ∷ rows) home = if row.0 == home then row.1 else newest rows home

abbrev pub home_of : ℕ × ℕ → ℕ
home_of row = row.0

-- the homes that have rows
abbrev pub homes : List (ℕ × ℕ) → List ℕ
homes rows = map home_of rows
