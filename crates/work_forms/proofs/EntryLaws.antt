-- No symbol and no relocation of an object of a work breaks a rule.
use Rattle.std.proofs.Common.{◌≡◌, ℕ, zero, suc, ◌+◌, ◌-◌, ◌*◌, ◌≤◌, ◌<◌, ◌||◌, ◌==◌, Bool, true, false, not}
use Rattle.std.proofs.Common.{nat_le, nat_lt, List, [], length, codes, None, refl, ap, subst, ◌∙◌, inl, inr, arith}
use Rattle.std.proofs.lemmas.Bool.{cases_lt}
use Rattle.std.proofs.lemmas.Bool.Decides.{nat_tests}
use Rattle.i386_reloc.specs.Below.{first_below, any_below}
use Rattle.i386_reloc.specs.Fields.{section_header, section_count, is_section, is_loaded, patches_loaded, entry_count}
use Rattle.i386_reloc.specs.Fields.{symbol_count, symbol_entry, symbol_names, symbol_name, ends_in, text_at}
use Rattle.i386_reloc.specs.Rules.{symbol_fault, is_section_of_symbol, relocation_fault, relocations_fault, is_met_by}
use Rattle.i386_reloc.specs.Rules.{is_met_before, is_placed, object_fault}
use Rattle.work_gen.specs.Encoding.{name_table}
use Rattle.work_gen.specs.ElfFile.{elf_file}
use Rattle.work_gen.specs.Functions.{function_count, function_name, calls_next, function_code, object_code}
use Rattle.work_gen.specs.Functions.{old_constant}
use Rattle.work_gen.specs.Functions.{new_constant}
use Rattle.work_gen.specs.Objects.{code_section, relocation_section, symbol_table, symbols, sections, object_file}
use Rattle.work_gen.specs.Objects.{old_object}
use Rattle.work_gen.specs.Objects.{new_object, symbol_names as names_of_symbols}
use Rattle.work_gen.specs.ElfFile.{string_table, section_name_table}
use Rattle.work_gen.specs.Work.{work_of}
use Rattle.work_forms.specs.ObjectFiles.{HasSymbol}
use Rattle.work_forms.proofs.RuleLaws.{few_functions, name_short}
use Rattle.work_forms.proofs.SymbolLaws.{code_at, relocations_at, table_at, names_at, count_is, of_section, of_function}
use Rattle.work_forms.proofs.SymbolLaws.{names_table_is}
use Rattle.work_forms.proofs.PlacedLaws.{or_true}
use Rattle.work_forms.proofs.RelocationLaws.{call_read}
use Rattle.work_forms.proofs.AcceptedLaws.{within, below_is, section_number, all_none, given, last_placed, no_entries}
use Rattle.work_forms.proofs.AcceptedLaws.{sections_kept}
use Rattle.work_forms.proofs.HeaderLaws.{kind_kept, header_kept}

-- symbols
symbol_kept : (file : List ℕ) (k size info section : ℕ) → HasSymbol file (suc k) size info section
    → ends_in (symbol_names file) (symbol_entry file (suc k)).name ≡ true → length (symbol_name file (suc k)) ≤ 4096
    → section < section_count file → symbol_fault file (suc k) ≡ None
unfolding symbol_fault
symbol_kept file k size info section has ends few below =
    let short = within (length (symbol_name file (suc k))) 4096 few in
    let place = has.section_is in
    let there : is_section_of_symbol file (symbol_entry file (suc k)).section ≡ true = grind (arith, nat_tests) in
    let start : (not (is_loaded file (symbol_entry file (suc k)).section)
    || nat_le (symbol_entry file (suc k)).value (section_header file (symbol_entry file (suc k)).section).size) ≡ true =
    ap (λ v. not (is_loaded file (symbol_entry file (suc k)).section)
    || nat_le v (section_header file (symbol_entry file (suc k)).section).size) has.value
    ∙ ap (λ b. not (is_loaded file (symbol_entry file (suc k)).section) || b)
    (within 0 (section_header file (symbol_entry file (suc k)).section).size (omega arith))
    ∙ or_true (not (is_loaded file (symbol_entry file (suc k)).section)) in
    rw (ends, short, there, start) refl

section_symbol_kept : (number : ℕ) (constants : ℕ → ℕ) (k : ℕ) → k < function_count number
    → symbol_fault (elf_file (sections (function_count number) constants)) (suc k) ≡ None
unfolding symbol_name names_of_symbols name_table
section_symbol_kept number constants k below =
    let file = elf_file (sections (function_count number) constants) in
    let e : k + 1 ≡ suc k = omega arith in
    let read = of_section number constants k below in
    let has = subst (λ n. HasSymbol file n 0 0x03 (k + 1)) e read.0 in
    let name = subst (λ n. (symbol_entry file n).name ≡ 0) e read.1 in
    let names = names_table_is number constants in
    let ends : ends_in (symbol_names file) (symbol_entry file (suc k)).name ≡ true =
    ap (ends_in (symbol_names file)) name ∙ ap (λ bytes. ends_in bytes 0) names in
    let none : text_at (symbol_names file) (symbol_entry file (suc k)).name ≡ [] =
    ap (text_at (symbol_names file)) name ∙ ap (λ bytes. text_at bytes 0) names in
    symbol_kept file k 0 0x03 (k + 1) has ends (omega (arith, ap length none))
    (omega (arith, below, section_number number constants))

function_symbol_kept : (number : ℕ) (constants : ℕ → ℕ) (i : ℕ) → i < function_count number
    → symbol_fault (elf_file (sections (function_count number) constants)) (suc (function_count number + i)) ≡ None
function_symbol_kept number constants i below =
    let count = function_count number in
    let file = elf_file (sections count constants) in
    let e : count + 1 + i ≡ suc (count + i) = omega arith in
    let read = of_function number constants i below in
    let size = length (object_code count constants i) in
    let has = subst (λ n. HasSymbol file n size 0x12 (i + 1)) e read.0 in
    let name = subst (λ n. symbol_name file n ≡ function_name i) e read.1 in
    let ends = subst (λ n. ends_in (symbol_names file) (symbol_entry file n).name ≡ true) e read.2 in
    symbol_kept file (count + i) size 0x12 (i + 1) has ends
    (omega (arith, ap length name, name_short i (omega (arith, below, few_functions number))))
    (omega (arith, below, section_number number constants))

first_symbol : (file : List ℕ) → symbol_fault file 0 ≡ None
unfolding symbol_fault
first_symbol file = refl

symbol_none : (number : ℕ) (constants : ℕ → ℕ) (k : ℕ) → k < 2 * function_count number + 1
    → symbol_fault (elf_file (sections (function_count number) constants)) k ≡ None
symbol_none number constants zero below = first_symbol (elf_file (sections (function_count number) constants))
symbol_none number constants (suc k) below =
    let count = function_count number in
    let file = elf_file (sections count constants) in
    elim (cases_lt k count) [
      | inl first ↦ section_symbol_kept number constants k first
      | inr past ↦ let e : count + (k - count) ≡ k = omega (arith, past) in
          subst (λ n. symbol_fault file (suc n) ≡ None) e
          (function_symbol_kept number constants (k - count) (omega (arith, past, below)))
    ]

symbols_kept : (number : ℕ) (constants : ℕ → ℕ)
    → first_below (symbol_fault (elf_file (sections (function_count number) constants)))
    (symbol_count (elf_file (sections (function_count number) constants))) ≡ None
symbols_kept number constants =
    let file = elf_file (sections (function_count number) constants) in
    ap (first_below (symbol_fault file)) (count_is number constants)
    ∙ all_none (symbol_fault file) (2 * function_count number + 1) (symbol_none number constants)

-- relocations
none_pass : (test : ℕ → Bool) (n : ℕ) → ((j : ℕ) → j < n → test j ≡ false) → any_below test n ≡ false
none_pass test zero fails = refl
none_pass test (suc n) fails = rw (none_pass test n (λ j below. fails j (omega arith)), fails n (omega arith)) refl

-- a section that has entries is one of relocations
first_has_none : (file : List ℕ) → entry_count file 0 ≡ 0
unfolding entry_count patches_loaded is_section
first_has_none file = refl

code_has_none : (number : ℕ) (constants : ℕ → ℕ) (i : ℕ) → i < function_count number
    → entry_count (elf_file (sections (function_count number) constants)) (i + 1) ≡ 0
unfolding code_section
code_has_none number constants i below =
    let count = function_count number in
    no_entries (elf_file (sections count constants)) (i + 1) (ap (λ k. k == 9)
    (given number constants i (code_section count constants i) (code_at count constants i below)).kind)

table_has_none : (number : ℕ) (constants : ℕ → ℕ)
    → entry_count (elf_file (sections (function_count number) constants)) (2 * function_count number - 1 + 1) ≡ 0
unfolding symbol_table
table_has_none number constants =
    let count = function_count number in
    no_entries (elf_file (sections count constants)) (2 * count - 1 + 1) (ap (λ k. k == 9)
    (given number constants (2 * count - 1) (symbol_table count (symbols count constants))
    (table_at number constants)).kind)

names_have_none : (number : ℕ) (constants : ℕ → ℕ)
    → entry_count (elf_file (sections (function_count number) constants)) (2 * function_count number + 1) ≡ 0
unfolding string_table
names_have_none number constants =
    let count = function_count number in
    no_entries (elf_file (sections count constants)) (2 * count + 1) (ap (λ k. k == 9)
    (given number constants (2 * count) (string_table (codes ".strtab") (names_of_symbols count))
    (names_at number constants)).kind)

last_has_none : (number : ℕ) (constants : ℕ → ℕ)
    → entry_count (elf_file (sections (function_count number) constants)) (2 * function_count number + 2) ≡ 0
unfolding section_name_table string_table
last_has_none number constants =
    let count = function_count number in
    no_entries (elf_file (sections count constants)) (2 * count + 2) (ap (λ k. k == 9)
    (last_placed number constants).kind)

rest_has_none : (number : ℕ) (constants : ℕ → ℕ) (k : ℕ) → 2 * function_count number ≤ k
    → k < 2 * function_count number + 3 → entry_count (elf_file (sections (function_count number) constants)) k ≡ 0
rest_has_none number constants k above below =
    let count = function_count number in
    let file = elf_file (sections count constants) in
    elim (cases_lt k (2 * count + 1)) [
      | inl table ↦ let e : 2 * count - 1 + 1 ≡ k = omega (arith, above, table) in
          subst (λ n. entry_count file n ≡ 0) e (table_has_none number constants)
      | inr past ↦ elim (cases_lt k (2 * count + 2)) [
        | inl names ↦ let e : 2 * count + 1 ≡ k = omega (arith, past, names) in
            subst (λ n. entry_count file n ≡ 0) e (names_have_none number constants)
        | inr last ↦ let e : 2 * count + 2 ≡ k = omega (arith, last, below) in
            subst (λ n. entry_count file n ≡ 0) e (last_has_none number constants)
      ]
    ]

-- calls stand in sections of their own
other_call : (number : ℕ) (constants : ℕ → ℕ) (i m : ℕ) → m < function_count number - 1 → m < i
    → any_below (is_met_by (elf_file (sections (function_count number) constants)) (i + 1) 6
    (function_count number + m + 1))
    (entry_count (elf_file (sections (function_count number) constants)) (function_count number + m + 1)) ≡ false
unfolding relocation_section
other_call number constants i m here fewer =
    let count = function_count number in
    let file = elf_file (sections count constants) in
    let k = count + m + 1 in
    let one = (call_read number constants m here).number in
    let is = given number constants (count + m) (relocation_section count m) (relocations_at count constants m here) in
    let info : (section_header file k).info ≡ m + 1 = is.info in
    let other : ((section_header file k).info == i + 1) ≡ false = grind (arith, nat_tests) in
    ap (any_below (is_met_by file (i + 1) 6 k)) one ∙ rw other refl

not_met : (number : ℕ) (constants : ℕ → ℕ) (i j : ℕ) → i < function_count number - 1
    → j < function_count number + i + 1
    → any_below (is_met_by (elf_file (sections (function_count number) constants)) (i + 1) 6 j)
    (entry_count (elf_file (sections (function_count number) constants)) j) ≡ false
not_met number constants i zero here below =
    let file = elf_file (sections (function_count number) constants) in
    ap (any_below (is_met_by file (i + 1) 6 0)) (first_has_none file)
not_met number constants i (suc j) here below =
    let count = function_count number in
    let file = elf_file (sections count constants) in
    elim (cases_lt j count) [
      | inl code ↦ let e : j + 1 ≡ suc j = omega arith in
          ap (any_below (is_met_by file (i + 1) 6 (suc j)))
          (subst (λ n. entry_count file n ≡ 0) e (code_has_none number constants j code))
      | inr past ↦ let e : count + (j - count) + 1 ≡ suc j = omega (arith, past) in
          let fewer : j - count < i = omega (arith, past, below) in
          subst (λ n. any_below (is_met_by file (i + 1) 6 n) (entry_count file n) ≡ false) e
          (other_call number constants i (j - count) (omega (arith, fewer, here)) fewer)
    ]

-- a call's field lies in its function
long_code : (calls : Bool) (displacement constant : ℕ) → calls ≡ true
    → length (function_code calls displacement constant) ≡ 11
unfolding function_code
long_code calls displacement constant is = rw is refl

call_kept : (number : ℕ) (constants : ℕ → ℕ) (i : ℕ) → i < function_count number - 1
    → relocation_fault (elf_file (sections (function_count number) constants)) (function_count number + i + 1) 0 ≡ None
unfolding relocation_fault is_placed is_met_before relocation_section code_section object_code
call_kept number constants i below =
    let count = function_count number in
    let file = elf_file (sections count constants) in
    let k = count + i + 1 in
    let call = call_read number constants i below in
    let is = given number constants (count + i) (relocation_section count i) (relocations_at count constants i below) in
    let code = given number constants i (code_section count constants i)
    (code_at count constants i (omega (arith, below))) in
    let info : (section_header file k).info ≡ i + 1 = is.info in
    let calls : calls_next count i ≡ true = below_is (i + 1) count (omega (arith, below)) in
    let size : (section_header file (i + 1)).size ≡ 11 =
    code.content.size ∙ long_code (calls_next count i) 0xFFFF_FFFC (constants i) calls in
    let named : nat_lt (i + 2) (symbol_count file) ≡ true =
    below_is (i + 2) (symbol_count file) (omega (arith, below, count_is number constants)) in
    let kind : (section_header file (i + 1)).kind ≡ 1 = code.kind in
    let alone : any_below (λ j. any_below (is_met_by file (i + 1) 6 j) (entry_count file j)) k ≡ false =
    none_pass (λ j. any_below (is_met_by file (i + 1) 6 j) (entry_count file j)) k
    (λ j before. not_met number constants i j below before) in
    rw (call.symbol_is, named, info, kind, call.kind_is, call.offset_is, size, alone) refl

relocations_none : (number : ℕ) (constants : ℕ → ℕ) (k : ℕ) → k < 2 * function_count number + 3
    → relocations_fault (elf_file (sections (function_count number) constants)) k ≡ None
unfolding relocations_fault
relocations_none number constants zero below =
    let file = elf_file (sections (function_count number) constants) in
    ap (first_below (relocation_fault file 0)) (first_has_none file)
relocations_none number constants (suc j) below =
    let count = function_count number in
    let file = elf_file (sections count constants) in
    let none : entry_count file (suc j) ≡ 0
    → first_below (relocation_fault file (suc j)) (entry_count file (suc j)) ≡ None =
    λ e. ap (first_below (relocation_fault file (suc j))) e in
    elim (cases_lt j count) [
      | inl code ↦ let e : j + 1 ≡ suc j = omega arith in
          none (subst (λ n. entry_count file n ≡ 0) e (code_has_none number constants j code))
      | inr past ↦ elim (cases_lt j (2 * count - 1)) [
        | inl calls ↦ let e : count + (j - count) + 1 ≡ suc j = omega (arith, past) in
            let here : j - count < count - 1 = omega (arith, past, calls) in
            subst (λ n. first_below (relocation_fault file n) (entry_count file n) ≡ None) e
            (ap (first_below (relocation_fault file (count + (j - count) + 1)))
            (call_read number constants (j - count) here).number
            ∙ rw (call_kept number constants (j - count) here) refl)
        | inr after ↦ none (rest_has_none number constants (suc j) (omega (arith, after)) below)
      ]
    ]

calls_kept : (number : ℕ) (constants : ℕ → ℕ)
    → first_below (relocations_fault (elf_file (sections (function_count number) constants)))
    (section_count (elf_file (sections (function_count number) constants))) ≡ None
calls_kept number constants =
    let file = elf_file (sections (function_count number) constants) in
    ap (first_below (relocations_fault file)) (section_number number constants)
    ∙ all_none (relocations_fault file) (2 * function_count number + 3) (relocations_none number constants)

object_kept : (number : ℕ) (constants : ℕ → ℕ) → object_fault (object_file (function_count number) constants) ≡ None
unfolding object_file object_fault
object_kept number constants =
    rw (
      kind_kept number constants,
      header_kept number constants,
      sections_kept number constants,
      symbols_kept number constants,
      calls_kept number constants,
    ) refl

pub pre_kept : (number : ℕ) → object_fault (work_of number).pre ≡ None
unfolding work_of old_object
pre_kept number = object_kept number (old_constant number)

pub post_kept : (number : ℕ) → object_fault (work_of number).post ≡ None
unfolding work_of new_object
post_kept number = object_kept number (new_constant number)
