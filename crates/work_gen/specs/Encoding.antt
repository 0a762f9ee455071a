-- How numbers, names and contents are written in the files of a work. All numbers are little-endian.
use Rattle.std.specs.Prelude.{ℕ, ◌-◌, ◌%◌, List, [], ◌∷◌, ◌++◌, length, replicate}
use Rattle.std.specs.List.{flat_map}
use Rattle.std.specs.Int.{w16, w32, to_le_bytes}

-- a number of two bytes, and one of four
abbrev pub half : ℕ → List ℕ
half n = to_le_bytes w16 n

abbrev pub word : ℕ → List ℕ
word n = to_le_bytes w32 n

abbrev pub zeros : ℕ → List ℕ
zeros n = replicate n 0

-- A name with the zero that ends it, and a table of names, which begins with a zero (System V gABI, chapter 4, "String
-- Table").
abbrev pub ended : List ℕ → List ℕ
ended name = name ++ 0 ∷ []

unfoldable pub name_table : List (List ℕ) → List ℕ
name_table names = 0 ∷ flat_map ended names

-- bytes, and behind them the zeros that fill them up to a multiple of 4
unfoldable pub padded : List ℕ → List ℕ
padded bytes = bytes ++ zeros ((4 - length bytes % 4) % 4)
