-- Where the zeros of a section of texts stand.
use Rattle.std.specs.Prelude.{ℕ, ◌==◌, if◌then◌else◌, List, [], ◌∷◌, length, slice_index}
use Rattle.elf32_object.specs.Below.{all_below}

-- a place, where a zero stands there
abbrev pub zero_at : List ℕ → ℕ → List ℕ
zero_at bytes k = if slice_index bytes k == 0 then k ∷ [] else []

-- the places of all zeros, ascending
unfoldable pub zeros_of : List ℕ → List ℕ
zeros_of bytes = all_below (zero_at bytes) (length bytes)
