-- How many relocations there are, and how many bytes are loaded.
use Rattle.std.proofs.Common.{◌≡◌, ℕ, zero, suc, ◌<◌, ◌≤◌, true, false, if◌then◌else◌}
use Rattle.std.proofs.Common.{nat_le, List, None, sym, ap, ◌∙◌, inl, inr, arith}
use Rattle.std.proofs.lemmas.Bool.{cases_Bool, leb-true}
use Rattle.elf32_object.specs.Below.{first_below, sum_below}
use Rattle.elf32_object.specs.Fields.{patches_loaded, entry_count, changes, relocations_below}
use Rattle.elf32_object.specs.Rules.{only_where, section_fault, relocation_section_fault}
use Rattle.elf32_object.specs.laws.BelowLaws.{none_first, none_second}
use Rattle.elf32_object.proofs.Rules.{section_fault_at}
use Rattle.elf32_object.proofs.Loads.{null_entries}

few_rule : (bytes : List ℕ) (i : ℕ) → relocation_section_fault bytes i ≡ None
    → nat_le (sum_below (entry_count bytes) (suc i)) 262144 ≡ true
unfolding relocation_section_fault
few_rule bytes i e = grind arith

rule_kept : (bytes : List ℕ) (i : ℕ) → 0 < i → section_fault bytes i ≡ None
    → only_where (patches_loaded bytes i) (relocation_section_fault bytes i) ≡ None
rule_kept bytes i p e =
    let rules = sym (section_fault_at bytes i p) ∙ e in
    grind (arith, none_first, none_second)

few_by_rule : (bytes : List ℕ) (i : ℕ) → 0 < i → section_fault bytes i ≡ None → patches_loaded bytes i ≡ true
    → sum_below (entry_count bytes) (suc i) ≤ 262144
few_by_rule bytes i p e patches =
    leb-true _ _ (few_rule bytes i (sym (ap (λ b. only_where b (relocation_section_fault bytes i)) patches)
    ∙ rule_kept bytes i p e))

no_entries : (bytes : List ℕ) (i : ℕ) → patches_loaded bytes i ≡ false → entry_count bytes i ≡ 0
unfolding entry_count
no_entries bytes i e = grind arith

-- the relocations of loaded sections are few
pub few_entries : (bytes : List ℕ) (n : ℕ) → first_below (section_fault bytes) n ≡ None
    → sum_below (entry_count bytes) n ≤ 262144
few_entries bytes zero e = omega arith
few_entries bytes (suc zero) e = omega (arith, null_entries bytes)
few_entries bytes (suc (suc n)) e =
    elim (cases_Bool (patches_loaded bytes (suc n))) [
      | inl patches ↦ few_by_rule bytes (suc n) (omega arith)
          (none_second (first_below (section_fault bytes) (suc n)) (section_fault bytes (suc n)) e) patches
      | inr none ↦ omega (
        arith,
        no_entries bytes (suc n) none,
        few_entries bytes (suc n)
            (none_first (first_below (section_fault bytes) (suc n)) (section_fault bytes (suc n)) e),
      )
    ]

part_below : (bytes : List ℕ) (section n : ℕ) → (if changes bytes section n then entry_count bytes n else 0)
    ≤ entry_count bytes n
part_below bytes section n = grind arith

-- a section has no more of them than there are
pub below_all : (bytes : List ℕ) (section n : ℕ) → relocations_below bytes section n ≤ sum_below (entry_count bytes) n
unfolding relocations_below
below_all bytes section zero = omega arith
below_all bytes section (suc n) = omega (arith, below_all bytes section n, part_below bytes section n)
