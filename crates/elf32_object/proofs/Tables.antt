-- Where the symbol table and the names of its symbols stand.
use Rattle.std.proofs.Common.{◌≡◌, ℕ, zero, suc, ◌/◌, ◌<◌, ◌≤◌, Bool, true, false, ◌||◌, ◌&&◌, nat_le}
use Rattle.std.proofs.Common.{if◌then◌else◌, List, Option, Some, None, refl, sym, ap, ◌∙◌, inl, inr, ◌⊎◌, arith}
use Rattle.std.proofs.lemmas.Bool.Decides.{nat_tests}
use Rattle.std.proofs.lemmas.Bool.{leb-true}
use Rattle.elf32_object.specs.declared.types.SectionHeader.{SectionHeader}
use Rattle.elf32_object.specs.Below.{first_of, first_below, least_below}
use Rattle.elf32_object.specs.Fields.{section_count, section_header, has_no_bytes, lies_in_file}
use Rattle.elf32_object.specs.Fields.{is_string_table, is_section, is_symbol_table, symbol_table}
use Rattle.elf32_object.specs.Rules.{section_fault, place_fault, symbol_table_fault}
use Rattle.elf32_object.specs.laws.BelowLaws.{none_first, none_second, none_below, first_at}
use Rattle.elf32_object.proofs.Rules.{section_fault_at}

-- the first of two is one of them
in_first : {X : Type 0} (a b : Option X) (x : X) → first_of a b ≡ Some x → (a ≡ Some x) ⊎ ((a ≡ None) × (b ≡ Some x))
in_first (Some y) b x e = inl e
in_first None b x e = inr (refl, e)

chosen : (test : Bool) (n i : ℕ) → (if test then Some n else None) ≡ Some i → (test ≡ true) × (i ≡ n)
chosen true n i e = (refl, cc)
chosen false n i e = cc

-- the least number below a bound that passes a test passes it, and lies below
least_passes : (test : ℕ → Bool) (n i : ℕ) → least_below test n ≡ Some i → (test i ≡ true) × (i < n)
least_passes test zero i e = cc
least_passes test (suc n) i e =
    elim (in_first (least_below test n) (if test n then Some n else None) i e) [
      | inl below ↦ let p = least_passes test n i below in (p.0, omega arith)
      | inr here ↦ let p = chosen (test n) n i here.1 in (ap test p.1 ∙ p.0, omega arith)
    ]

-- The symbol table of a file whose sections break no rule.
pub record IsTable (bytes : List ℕ) (i : ℕ) : Type 0 where
  pub within : i < section_count bytes
  pub few : (section_header bytes i).size / 16 ≤ 65536
  pub in_file : lies_in_file bytes (section_header bytes i) ≡ true
  pub link : (section_header bytes i).link < section_count bytes
  pub names_in_file : lies_in_file bytes (section_header bytes (section_header bytes i).link) ≡ true

table_place : (bytes : List ℕ) (i : ℕ) → symbol_table bytes ≡ Some i → (0 < i) × (i < section_count bytes)
    × ((section_header bytes i).kind ≡ 2)
unfolding symbol_table is_symbol_table is_section
table_place bytes i e =
    let p = least_passes (is_symbol_table bytes) (section_count bytes) i e in
    (grind (arith, nat_tests, p.0), p.1, grind (arith, nat_tests, p.0))

table_rules : (bytes : List ℕ) (i : ℕ) → symbol_table bytes ≡ Some i
    → first_below (section_fault bytes) (section_count bytes) ≡ None → (place_fault bytes i ≡ None)
    × (symbol_table_fault bytes i ≡ None)
table_rules bytes i e none =
    let p = table_place bytes i e in
    let rules = sym (section_fault_at bytes i p.0) ∙ none_below (section_fault bytes)
    (section_count bytes) none i p.1 in
    (grind (arith, none_first, none_second), grind (arith, nat_tests, none_first, none_second))

strings_lie : (b : Bool) (bytes : List ℕ) (header : SectionHeader) → (b && is_string_table bytes header) ≡ true
    → lies_in_file bytes header ≡ true
strings_lie b bytes header e = grind arith

typed_bytes : (bytes : List ℕ) (header : SectionHeader) → header.kind ≡ 2
    → (has_no_bytes header || lies_in_file bytes header) ≡ true → lies_in_file bytes header ≡ true
typed_bytes bytes header kind e = grind (arith, nat_tests)

few_symbols : (bytes : List ℕ) (i : ℕ) → symbol_table_fault bytes i ≡ None
    → nat_le ((section_header bytes i).size / 16) 65536 ≡ true
unfolding symbol_table_fault
few_symbols bytes i e = grind arith

links : (bytes : List ℕ) (i : ℕ) → symbol_table_fault bytes i ≡ None
    → (is_section bytes (section_header bytes i).link && is_string_table bytes
    (section_header bytes (section_header bytes i).link)) ≡ true
unfolding symbol_table_fault
links bytes i e = grind arith

has_bytes : (bytes : List ℕ) (i : ℕ) → place_fault bytes i ≡ None
    → (has_no_bytes (section_header bytes i) || lies_in_file bytes (section_header bytes i)) ≡ true
unfolding place_fault
has_bytes bytes i e = grind arith

link_within : (bytes : List ℕ) (i : ℕ) (b : Bool) → (is_section bytes i && b) ≡ true → i < section_count bytes
unfolding is_section
link_within bytes i b e = grind (arith, nat_tests)

pub is_table : (bytes : List ℕ) (i : ℕ) → symbol_table bytes ≡ Some i
    → first_below (section_fault bytes) (section_count bytes) ≡ None → IsTable bytes i
is_table bytes i e none =
    let p = table_place bytes i e in
    let rules = table_rules bytes i e none in
    let linked = links bytes i rules.1 in
    record {
      within = p.1;
      few = leb-true _ _ (few_symbols bytes i rules.1);
      in_file = typed_bytes bytes (section_header bytes i) p.2 (has_bytes bytes i rules.0);
      link = link_within bytes (section_header bytes i).link _ linked;
      names_in_file = strings_lie (is_section bytes (section_header bytes i).link) bytes
          (section_header bytes (section_header bytes i).link) linked;
    }

-- no number passes below one that does
pub least_at : (test : ℕ → Bool) (n i : ℕ) → least_below test i ≡ None → test i ≡ true → i < n
    → least_below test n ≡ Some i
least_at test n i none here h =
    first_at (λ j. if test j then Some j else None) n i i none (ap (λ b. if b then Some i else None) here) h
