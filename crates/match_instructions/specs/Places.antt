-- The places of a list of instructions: of the kept ones, and of the padding.
use Rattle.std.specs.Prelude.{ℕ, ◌<◌, Bool, true, false, ◌||◌, ◌==◌, nat_le, if◌then◌else◌, List, [], ◌∷◌, ◌++◌, map}
use Rattle.std.specs.Prelude.{All, Option, None}
use Rattle.std.specs.List.{filter, list_any, position}
use Rattle.match_instructions.specs.Instructions.{Instruction, place_of, is_left_out, kept_of}

pub record Places : Type 0 where
  pub kept : List ℕ
  pub padding : List ℕ

-- those of a list
abbrev pub places_of : List Instruction → Places
places_of is = record { kept = map place_of (kept_of is); padding = map place_of (filter is_left_out is) }

-- They all stand before a place.
pub record AreBelow (place : ℕ) (p : Places) : Type 0 where
  pub kept : All (λ k. k < place) p.kept
  pub padding : All (λ k. k < place) p.padding

-- one more at the end, of a kept instruction or of padding
abbrev pub with_place : Places → ℕ → Bool → Places
with_place p place true = record { kept = p.kept ++ place ∷ []; padding = p.padding }
with_place p place false = record { kept = p.kept; padding = p.padding ++ place ∷ [] }

abbrev pub is_place : ℕ → ℕ → Bool
is_place place other = other == place

-- what a place stands for among them
unfoldable pub number_in : Places → ℕ → Option ℕ
number_in p place =
    if list_any (is_place place) p.kept || list_any (is_place place) p.padding then position (nat_le place) p.kept
    else None
