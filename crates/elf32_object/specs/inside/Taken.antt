-- The fields that the relocations up to one change, as a set of numbers.
use Rattle.std.specs.Prelude.{◌≡◌, ℕ, ◌+◌, ◌*◌, ◌<◌, Bool, true, false, ◌&&◌, ◌||◌, ◌==◌, List}
use Rattle.std.specs.Ordering.{nat_cmp}
use Rattle.std.specs.BTreeSet.{BTreeSet, contains}
use Rattle.elf32_object.specs.Below.{any_below}
use Rattle.elf32_object.specs.Fields.{section_header, entry_count, relocation}
use Rattle.elf32_object.specs.Rules.{has_field}

-- whether entry k of section i changes the field at this offset of this section
abbrev pub is_field : List ℕ → ℕ → ℕ → ℕ → ℕ → Bool
is_field bytes section offset i k =
    (section_header bytes i).info == section && has_field (relocation bytes i k)
    && (relocation bytes i k).offset == offset

-- whether an entry before entry k of section i does
unfoldable pub is_taken : List ℕ → ℕ → ℕ → ℕ → ℕ → Bool
is_taken bytes section offset i k =
    any_below (λ j. any_below (is_field bytes section offset j) (entry_count bytes j)) i
    || any_below (is_field bytes section offset i) k

-- a field as a number
abbrev pub field_key : ℕ → ℕ → ℕ
field_key section offset = section * 4294967296 + offset

-- the set has the fields that the entries before entry k of section i change
pub record AreTaken (bytes : List ℕ) (i k : ℕ) (fields : BTreeSet ℕ) : Type 0 where
  pub same : (section offset : ℕ) → offset < 4294967296
      → contains nat_cmp fields (field_key section offset) ≡ is_taken bytes section offset i k

-- the four bytes at an offset share none with a field of the set
abbrev pub IsFree : BTreeSet ℕ → ℕ → ℕ → Type 0
IsFree fields section offset =
    (at : ℕ) → at < offset + 4 → offset < at + 4 → contains nat_cmp fields (field_key section at) ≡ false

-- they share one
abbrev pub IsMet : BTreeSet ℕ → ℕ → ℕ → Type 0
IsMet fields section offset =
    (at : ℕ) × (at < offset + 4) × (offset < at + 4) × (contains nat_cmp fields (field_key section at) ≡ true)
