-- What the sections, symbols and relocations of an object are, beside what their fields say.
use Rattle.std.proofs.Common.{◌≡◌, ℕ, zero, suc, ◌+◌, ◌<◌, ◌≤◌, Bool, true, false, ◌==◌, ◌||◌, ◌&&◌}
use Rattle.std.proofs.Common.{nat_le, nat_lt, List, length, take, drop, None, sym, ap, subst, []}
use Rattle.std.proofs.Common.{if◌then◌else◌, ◌∙◌, inl, inr, arith, length-take, length-drop}
use Rattle.std.proofs.lemmas.Bool.{cases_Bool, cases_lt, leb-true, ltb-true}
use Rattle.std.proofs.Common.{eq-eqb, ◌⊎◌}
use Rattle.std.proofs.lemmas.Bool.Decides.{nat_tests}
use Rattle.elf32_object.specs.Numbers.{SHT_NOBITS}
use Rattle.elf32_object.specs.declared.types.SectionHeader.{SectionHeader}
use Rattle.elf32_object.specs.declared.types.Reloc.{Reloc}
use Rattle.elf32_object.specs.Below.{first_below, sum_below}
use Rattle.elf32_object.specs.Fields.{section_count, section_header, section_name, section_bytes}
use Rattle.elf32_object.specs.Fields.{has_no_bytes, lies_in_file, holds_program, is_section, is_loaded}
use Rattle.elf32_object.specs.Fields.{patches_loaded, symbol_count, symbol_entry, symbol_name, entry_count}
use Rattle.elf32_object.specs.Fields.{changes, relocation, relocations_below, IsRelocation}
use Rattle.elf32_object.specs.Rules.{object_fault, place_fault, section_fault, content_fault, loaded_size}
use Rattle.elf32_object.specs.Rules.{symbol_fault, relocation_fault, relocations_fault, is_alignment}
use Rattle.elf32_object.specs.Rules.{is_section_of_symbol, has_field, meets, is_met_by, is_met_before, is_placed}
use Rattle.elf32_object.specs.laws.BelowLaws.{none_first, none_second, none_below}
use Rattle.elf32_object.proofs.Apart.{none_before, none_here}
use Rattle.elf32_object.proofs.Entries.{patches}
use Rattle.elf32_object.proofs.Rules.{sections_kept, symbols_kept, section_fault_at}
use Rattle.elf32_object.proofs.Rules.{symbol_fault_at, place_kept, bytes_in_file}

section_rules : (bytes : List ℕ) (i : ℕ) → object_fault bytes ≡ None → 0 < i → i < section_count bytes
    → place_fault bytes i ≡ None
section_rules bytes i e p l = place_kept bytes i (sections_kept bytes e) p l

name_rule : (bytes : List ℕ) (i : ℕ) → place_fault bytes i ≡ None → nat_le (length (section_name bytes i)) 4096 ≡ true
unfolding place_fault
name_rule bytes i e = grind arith

pub short_name : (bytes : List ℕ) (i : ℕ) → object_fault bytes ≡ None → 0 < i → i < section_count bytes
    → length (section_name bytes i) ≤ 4096
short_name bytes i e p l = leb-true _ _ (name_rule bytes i (section_rules bytes i e p l))

alignment_rule : (bytes : List ℕ) (i : ℕ) → place_fault bytes i ≡ None → is_loaded bytes i ≡ true
    → is_alignment (section_header bytes i).align ≡ true
unfolding place_fault
alignment_rule bytes i e loaded = grind arith

pub aligned : (bytes : List ℕ) (i : ℕ) → object_fault bytes ≡ None → 0 < i → i < section_count bytes
    → is_loaded bytes i ≡ true → is_alignment (section_header bytes i).align ≡ true
aligned bytes i e p l loaded = alignment_rule bytes i (section_rules bytes i e p l) loaded

content_rule : (bytes : List ℕ) (i : ℕ) → content_fault bytes i ≡ None
    → nat_le (sum_below (loaded_size bytes) (suc i)) 8388608 ≡ true
unfolding content_fault
content_rule bytes i e = grind arith

content_kept : (bytes : List ℕ) (i : ℕ) → 0 < i → section_fault bytes i ≡ None → content_fault bytes i ≡ None
content_kept bytes i p e =
    let rules = sym (section_fault_at bytes i p) ∙ e in
    grind (arith, none_first, none_second)

size_loaded : (bytes : List ℕ) (i : ℕ) → is_loaded bytes i ≡ true → loaded_size bytes i ≡ (section_header bytes i).size
unfolding loaded_size
size_loaded bytes i e = grind arith

pub small_size : (bytes : List ℕ) (i : ℕ) → object_fault bytes ≡ None → 0 < i → i < section_count bytes
    → is_loaded bytes i ≡ true → (section_header bytes i).size ≤ 8388608
small_size bytes i e p l loaded =
    let rule = none_below (section_fault bytes) (section_count bytes) (sections_kept bytes e) i l in
    let sum = leb-true _ _ (content_rule bytes i (content_kept bytes i p rule)) in
    omega (arith, sum, size_loaded bytes i loaded)

lie : (bytes : List ℕ) (header : SectionHeader) → has_no_bytes header ≡ false
    → (has_no_bytes header || lies_in_file bytes header) ≡ true → header.offset + header.size ≤ length bytes
lie bytes header stored e = grind (arith, nat_tests)

length_named : (bytes : List ℕ) (offset size : ℕ) → offset + size ≤ length bytes
    → length (take size (drop offset bytes)) ≡ size
length_named bytes offset size l = omega (arith, length-take size (drop offset bytes), length-drop offset bytes)

pub whole_bytes : (bytes : List ℕ) (i : ℕ) → object_fault bytes ≡ None → 0 < i → i < section_count bytes
    → has_no_bytes (section_header bytes i) ≡ false → length (section_bytes bytes i) ≡ (section_header bytes i).size
unfolding section_bytes
whole_bytes bytes i e p l stored =
    let in_file = lie bytes (section_header bytes i) stored (bytes_in_file bytes i (sections_kept bytes e) p l) in
    ap (λ b. length (if b then [] else take (section_header bytes i).size (drop (section_header bytes i).offset bytes)))
    stored
    ∙ length_named bytes (section_header bytes i).offset (section_header bytes i).size in_file

symbol_rules : (bytes : List ℕ) (k : ℕ) → object_fault bytes ≡ None → k < symbol_count bytes
    → symbol_fault bytes k ≡ None
symbol_rules bytes k e l = none_below (symbol_fault bytes) (symbol_count bytes) (symbols_kept bytes e) k l

pub short_symbol : (bytes : List ℕ) (k : ℕ) → object_fault bytes ≡ None → 0 < k → k < symbol_count bytes
    → length (symbol_name bytes k) ≤ 4096
short_symbol bytes k e p l =
    let rules = sym (symbol_fault_at bytes k p) ∙ symbol_rules bytes k e l in
    let rule : nat_le (length (symbol_name bytes k)) 4096 ≡ true = grind arith in
    leb-true _ _ rule

pub known_section : (bytes : List ℕ) (k : ℕ) → object_fault bytes ≡ None → 0 < k → k < symbol_count bytes
    → is_section_of_symbol bytes (symbol_entry bytes k).section ≡ true
known_section bytes k e p l =
    let rules = sym (symbol_fault_at bytes k p) ∙ symbol_rules bytes k e l in
    grind arith

pub stands_within : (bytes : List ℕ) (k : ℕ) → object_fault bytes ≡ None → 0 < k → k < symbol_count bytes
    → is_loaded bytes (symbol_entry bytes k).section ≡ true
    → (symbol_entry bytes k).value ≤ (section_header bytes (symbol_entry bytes k).section).size
stands_within bytes k e p l loaded =
    let rules = sym (symbol_fault_at bytes k p) ∙ symbol_rules bytes k e l in
    let rule : nat_le (symbol_entry bytes k).value (section_header bytes (symbol_entry bytes k).section).size ≡ true =
    grind arith in
    leb-true _ _ rule

relocations_kept : (bytes : List ℕ) → object_fault bytes ≡ None
    → first_below (relocations_fault bytes) (section_count bytes) ≡ None
unfolding object_fault
relocations_kept bytes e = grind (arith, none_first, none_second)

entries_kept : (bytes : List ℕ) (i : ℕ) → relocations_fault bytes i ≡ None
    → first_below (relocation_fault bytes i) (entry_count bytes i) ≡ None
unfolding relocations_fault
entries_kept bytes i e = e

changed : (bytes : List ℕ) (section i : ℕ) → changes bytes section i ≡ true → (patches_loaded bytes i ≡ true)
    × ((section_header bytes i).info ≡ section)
unfolding changes
changed bytes section i e = (grind (arith, nat_tests), grind (arith, nat_tests))

entry_rules : (bytes : List ℕ) (section k : ℕ) (r : Reloc) → object_fault bytes ≡ None → IsRelocation bytes section k r
    → relocation_fault bytes r.from r.index ≡ None
entry_rules bytes section k r e is =
    let from = (patches bytes r.from (changed bytes section r.from is.of_section).0).1 in
    none_below (relocation_fault bytes r.from) (entry_count bytes r.from)
    (entries_kept bytes r.from (none_below (relocations_fault bytes) (section_count bytes)
    (relocations_kept bytes e) r.from from)) r.index is.in_range

-- what the rules say of an entry
entry_parts : (bytes : List ℕ) (i k : ℕ) → relocation_fault bytes i k ≡ None
    → (nat_lt (relocation bytes i k).symbol (symbol_count bytes) ≡ true)
    × (((section_header bytes (section_header bytes i).info).kind == SHT_NOBITS) ≡ false) × (is_placed bytes i k ≡ true)
unfolding relocation_fault
entry_parts bytes i k e = (grind arith, grind arith, grind arith)

field_fits : (bytes : List ℕ) (i k : ℕ) → is_placed bytes i k ≡ true → has_field (relocation bytes i k) ≡ true
    → nat_le ((relocation bytes i k).offset + 4) (section_header bytes (section_header bytes i).info).size ≡ true
unfolding is_placed
field_fits bytes i k e field = grind arith

begins_within : (bytes : List ℕ) (i k : ℕ) → is_placed bytes i k ≡ true → has_field (relocation bytes i k) ≡ false
    → nat_lt (relocation bytes i k).offset (section_header bytes (section_header bytes i).info).size ≡ true
unfolding is_placed
begins_within bytes i k e field = grind arith

-- What a relocation of a section is, beside its fields.
pub record IsPlaced (bytes : List ℕ) (section : ℕ) (r : Reloc) : Type 0 where
  pub symbol : r.symbol < symbol_count bytes
  pub filled : ((section_header bytes section).kind == SHT_NOBITS) ≡ false
  pub begins : r.offset < (section_header bytes section).size
  pub field : has_field r ≡ true → r.offset + 4 ≤ (section_header bytes section).size

entry_placed : (bytes : List ℕ) (i k : ℕ) → relocation_fault bytes i k ≡ None
    → IsPlaced bytes (section_header bytes i).info (relocation bytes i k)
entry_placed bytes i k e =
    let parts = entry_parts bytes i k e in
    let field : has_field (relocation bytes i k) ≡ true
    → (relocation bytes i k).offset + 4 ≤ (section_header bytes (section_header bytes i).info).size =
    λ has. leb-true _ _ (field_fits bytes i k parts.2 has) in
    record {
      symbol = ltb-true _ _ parts.0;
      filled = parts.1;
      begins =
          elim (cases_Bool (has_field (relocation bytes i k))) [
            | inl has ↦ omega (arith, field has)
            | inr none ↦ ltb-true _ _ (begins_within bytes i k parts.2 none)
          ];
      field = field;
    }

pub placed : (bytes : List ℕ) (section k : ℕ) (r : Reloc) → object_fault bytes ≡ None → IsRelocation bytes section k r
    → IsPlaced bytes section r
placed bytes section k r e is =
    subst (λ (x : Reloc). IsPlaced bytes section x) (sym is.entry)
    (subst (λ (s : ℕ). IsPlaced bytes s (relocation bytes r.from r.index))
    (changed bytes section r.from is.of_section).1
    (entry_placed bytes r.from r.index (entry_rules bytes section k r e is)))

program : (header : SectionHeader) → holds_program header ≡ true → (header.kind == SHT_NOBITS) ≡ false
    → has_no_bytes header ≡ false
program header e filled = grind (arith, nat_tests)

loaded_program : (bytes : List ℕ) (i : ℕ) → is_loaded bytes i ≡ true → (0 < i) × (i < section_count bytes)
    × (holds_program (section_header bytes i) ≡ true)
unfolding is_loaded is_section
loaded_program bytes i e = (grind (arith, nat_tests), grind (arith, nat_tests), grind arith)

-- a field lies in the section's bytes
pub field_in_bytes : (bytes : List ℕ) (section : ℕ) (r : Reloc) → object_fault bytes ≡ None
    → is_loaded bytes section ≡ true → IsPlaced bytes section r → has_field r ≡ true
    → r.offset + 4 ≤ length (section_bytes bytes section)
field_in_bytes bytes section r e loaded is has =
    let part = loaded_program bytes section loaded in
    omega (
      arith,
      is.field has,
      whole_bytes bytes section e part.0 part.1
          (program (section_header bytes section) part.2 is.filled),
    )

-- a section's entries all come before the relocations of later sections
below_step : (bytes : List ℕ) (section i n : ℕ) → i < n → changes bytes section i ≡ true
    → relocations_below bytes section i + entry_count bytes i ≤ relocations_below bytes section n
unfolding relocations_below
below_step bytes section i zero l e = absurd (omega arith)
below_step bytes section i (suc n) l e =
    elim (cases_lt i n) [
      | inl lt ↦ omega (arith, below_step bytes section i n lt e)
      | inr le ↦
          let same : i ≡ n = omega arith in
          subst (λ (m : ℕ). relocations_below bytes section i + entry_count bytes i ≤ relocations_below bytes section
          (suc m)) same
          (omega (arith, ap (λ b. if b then entry_count bytes i else 0) e))
    ]

-- a relocation of a lower number stands in an earlier section, or earlier in the same one
earlier : (bytes : List ℕ) (section j k : ℕ) (other r : Reloc) → IsRelocation bytes section j other
    → IsRelocation bytes section k r → j < k → (other.from < r.from) ⊎ ((other.from ≡ r.from) × (other.index < r.index))
earlier bytes section j k other r a b l =
    elim (cases_lt other.from r.from) [
      | inl lt ↦ inl lt
      | inr le ↦
          elim (cases_lt r.from other.from) [
            | inl lt ↦
                absurd (omega (
                  arith,
                  a.number,
                  b.number,
                  b.in_range,
                  below_step bytes section r.from other.from lt
                      b.of_section,
                ))
            | inr ge ↦
                let same : other.from ≡ r.from = omega arith in
                inr (same, omega (arith, a.number, b.number, ap (relocations_below bytes section) same))
          ]
    ]

not_met : (bytes : List ℕ) (i k : ℕ) → is_placed bytes i k ≡ true → has_field (relocation bytes i k) ≡ true
    → is_met_before bytes (section_header bytes i).info (relocation bytes i k).offset i k ≡ false
unfolding is_placed
not_met bytes i k e field = grind arith

apart_field : (same field met : Bool) → same ≡ true → field ≡ true → (same && field && met) ≡ false → met ≡ false
apart_field same field met s f e = grind arith

apart_entry : (bytes : List ℕ) (section offset i k : ℕ) (r : Reloc) → r ≡ relocation bytes i k
    → (section_header bytes i).info ≡ section → has_field r ≡ true → is_met_by bytes section offset i k ≡ false
    → meets offset r.offset ≡ false
apart_entry bytes section offset i k r e target field none =
    ap (λ x. meets offset x.offset) e
    ∙ apart_field ((section_header bytes i).info == section) (has_field (relocation bytes i k))
    (meets offset (relocation bytes i k).offset)
    (eq-eqb _ _ target) (sym (ap has_field e) ∙ field) none

-- the fields of two relocations of a section share no byte
pub apart : (bytes : List ℕ) (section j k : ℕ) (other r : Reloc) → object_fault bytes ≡ None
    → IsRelocation bytes section j other → IsRelocation bytes section k r → j < k
    → has_field r ≡ true → has_field other ≡ true → meets r.offset other.offset ≡ false
apart bytes section j k other r e a b l field_r field_other =
    let target = (changed bytes section r.from b.of_section).1 in
    let parts = entry_parts bytes r.from r.index (entry_rules bytes section k r e b) in
    let none : is_met_before bytes section r.offset r.from r.index ≡ false =
    ap (λ x. is_met_before bytes section x.offset r.from r.index) b.entry
    ∙ ap (λ s. is_met_before bytes s (relocation bytes r.from r.index).offset r.from r.index) (sym target)
    ∙ not_met bytes r.from r.index parts.2 (sym (ap has_field b.entry) ∙ field_r) in
    apart_entry bytes section r.offset other.from other.index other a.entry
    (changed bytes section other.from a.of_section).1 field_other
    (elim (earlier bytes section j k other r a b l) [
      | inl before ↦ none_before bytes section r.offset r.from r.index other.from other.index none before a.in_range
      | inr here ↦
          subst (λ (i : ℕ). is_met_by bytes section r.offset i other.index ≡ false) (sym here.0)
          (none_here bytes section r.offset r.from r.index other.index none here.1)
    ])
