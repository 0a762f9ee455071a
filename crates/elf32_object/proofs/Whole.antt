-- The fault of the whole file from those of its parts.
use Rattle.std.proofs.Common.{◌≡◌, ℕ, ◌+◌, ◌*◌, ◌<◌, ◌≤◌, true, ◌&&◌, nat_lt, List, length, None, arith}
use Rattle.std.proofs.lemmas.Bool.{leb-true}
use Rattle.std.proofs.lemmas.Bool.Decides.{nat_tests}
use Rattle.elf32_object.specs.Fields.{section_table, section_count, name_table}
use Rattle.elf32_object.specs.Fields.{section_header, is_string_table, lies_in_file}
use Rattle.elf32_object.specs.Rules.{header_fault}

-- a file whose header breaks no rule
pub header_few : (bytes : List ℕ) → header_fault bytes ≡ None → section_count bytes ≤ 4096
unfolding header_fault
header_few bytes e = leb-true _ _ (grind arith)

pub header_table : (bytes : List ℕ) → header_fault bytes ≡ None
    → section_table bytes + 40 * section_count bytes ≤ length bytes
unfolding header_fault
header_table bytes e = leb-true _ _ (grind arith)

header_names : (bytes : List ℕ) → header_fault bytes ≡ None
    → (nat_lt (name_table bytes) (section_count bytes) && is_string_table bytes
    (section_header bytes (name_table bytes))) ≡ true
unfolding header_fault
header_names bytes e = grind arith

pub header_named : (bytes : List ℕ) → header_fault bytes ≡ None → name_table bytes < section_count bytes
header_named bytes e = let names = header_names bytes e in grind (arith, nat_tests)

pub header_names_lie : (bytes : List ℕ) → header_fault bytes ≡ None
    → lies_in_file bytes (section_header bytes (name_table bytes)) ≡ true
header_names_lie bytes e = let names = header_names bytes e in grind (arith, nat_tests)
