-- Where the relocations of a loaded section stand.
use Rattle.std.proofs.Common.{◌≡◌, ℕ, ◌+◌, ◌*◌, ◌<◌, ◌≤◌, true, ◌||◌, List, length, None, arith}
use Rattle.std.proofs.lemmas.Bool.Decides.{nat_tests}
use Rattle.elf32_object.specs.Fields.{section_count, section_header, has_no_bytes, lies_in_file}
use Rattle.elf32_object.specs.Fields.{is_section, is_loaded, patches_loaded, entry_count}
use Rattle.elf32_object.specs.Rules.{section_fault}
use Rattle.elf32_object.specs.Below.{first_below}
use Rattle.elf32_object.proofs.Loads.{loaded_within}
use Rattle.elf32_object.proofs.Rules.{bytes_in_file}

-- a section with relocations of loaded sections is one of type 9, and changes a loaded section
pub patches : (bytes : List ℕ) (i : ℕ) → patches_loaded bytes i ≡ true → (0 < i) × (i < section_count bytes)
    × ((section_header bytes i).kind ≡ 9) × (is_loaded bytes (section_header bytes i).info ≡ true)
unfolding patches_loaded is_section
patches bytes i e = (
  grind (arith, nat_tests),
  grind (arith, nat_tests),
  grind (arith, nat_tests),
  grind
      (arith, nat_tests),
)

-- a section with an entry
pub has_entry : (bytes : List ℕ) (i k : ℕ) → k < entry_count bytes i → (patches_loaded bytes i ≡ true)
    × (8 * (k + 1) ≤ (section_header bytes i).size)
unfolding entry_count
has_entry bytes i k h = (grind (arith, nat_tests), grind (arith, nat_tests))

pub entry_lies : (bytes : List ℕ) (i k : ℕ)
    → (has_no_bytes (section_header bytes i) || lies_in_file bytes (section_header bytes i)) ≡ true
    → k < entry_count bytes i → (section_header bytes i).offset + 8 * (k + 1) ≤ length bytes
entry_lies bytes i k e h =
    let entry = has_entry bytes i k h in
    let section = patches bytes i entry.0 in
    grind (arith, nat_tests)

pub entry_in_file : (bytes : List ℕ) (i k : ℕ) → first_below (section_fault bytes) (section_count bytes) ≡ None
    → k < entry_count bytes i → (section_header bytes i).offset + 8 * (k + 1) ≤ length bytes
entry_in_file bytes i k e h =
    let section = patches bytes i (has_entry bytes i k h).0 in
    entry_lies bytes i k (bytes_in_file bytes i e section.0 section.1) h

-- the section that an entry changes is one of the file
pub target_within : (bytes : List ℕ) (i k : ℕ) → k < entry_count bytes i
    → (section_header bytes i).info < section_count bytes
target_within bytes i k h = loaded_within bytes (section_header bytes i).info
    (patches bytes i (has_entry bytes i k h).0).3
