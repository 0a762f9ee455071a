-- What an object that is read keeps.
use Rattle.std.specs.Prelude.{◌≡◌, ℕ, ◌≤◌, List, None}
use Rattle.elf32_object.specs.declared.rows.Spot.{Spot}
use Rattle.elf32_object.specs.inside.Rows.{AreRows}
use Rattle.elf32_object.specs.Below.{sum_below}
use Rattle.elf32_object.specs.Fields.{section_count, entry_count}
use Rattle.elf32_object.specs.Rules.{object_fault, loaded_size}

-- the entries of loaded sections' relocations below section i, and the bytes that the sections below it load
pub record AreTotals (bytes : List ℕ) (i relocations content : ℕ) : Type 0 where
  pub relocations_are : relocations ≡ sum_below (entry_count bytes) i
  pub few : relocations ≤ 262144
  pub content_is : content ≡ sum_below (loaded_size bytes) i
  pub small : content ≤ 8388608

-- The bytes break no rule, those that the symbols stand in are the same, and each section's row has the places of
-- its relocations.
pub record IsKept (bytes symbol_bytes : List ℕ) (rows : List (List Spot)) : Type 0 where
  pub no_fault : object_fault bytes ≡ None
  pub same_bytes : symbol_bytes ≡ bytes
  pub rows_are : AreRows bytes (section_count bytes) rows
