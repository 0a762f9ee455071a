-- The places of the relocations of each section, a row for each.
use Rattle.std.specs.Prelude.{◌≡◌, ℕ, ◌<◌, List, [], map, length, get_or, if◌then◌else◌}
use Rattle.std.specs.Vec.{vec_items}
use Rattle.std.specs.Global.{Vec}
use Rattle.elf32_object.specs.declared.rows.Spot.{Spot}
use Rattle.elf32_object.specs.Below.{each_below, all_below}
use Rattle.elf32_object.specs.Fields.{section_count, entry_count, changes}

-- the rows as lists
abbrev pub rows_of : List (Vec Spot) → List (List Spot)
rows_of rows = map vec_items rows

-- an entry of section i
abbrev pub spot_of : ℕ → ℕ → Spot
spot_of i k = record { from = i; index = k }

-- the entries of the sections below i that change this section, in order
abbrev pub spots_below : List ℕ → ℕ → ℕ → List Spot
spots_below bytes section i = all_below
    (λ j. if changes bytes section j then each_below (spot_of j) (entry_count bytes j) else []) i

-- each section's row has the entries of the sections below i that change it
pub record AreRows (bytes : List ℕ) (i : ℕ) (rows : List (List Spot)) : Type 0 where
  pub counted : length rows ≡ section_count bytes
  pub spots_are : (section : ℕ) → section < section_count bytes → get_or rows section [] ≡ spots_below bytes section i
