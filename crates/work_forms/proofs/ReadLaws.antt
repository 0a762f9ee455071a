-- What is read in an object of a work, as far as its sections as they are compared depend on it.
use Rattle.std.proofs.Common.{◌≡◌, ℕ, zero, suc, ◌+◌, ◌-◌, ◌*◌, ◌≤◌, ◌<◌, ◌==◌, true, false, List, length, codes}
use Rattle.std.proofs.Common.{refl, ap, subst, ◌∙◌, inl, inr, arith}
use Rattle.std.proofs.lemmas.Bool.{cases_lt}
use Rattle.i386_reloc.specs.Fields.{section_header, section_count, section_name, section_bytes, is_section, is_loaded}
use Rattle.i386_reloc.specs.Fields.{symbol_count, symbol_name, patches_loaded}
use Rattle.work_gen.specs.declared.types.Section.{Section}
use Rattle.work_gen.specs.ElfFile.{string_table, section_name_table, elf_file}
use Rattle.work_gen.specs.Functions.{function_count, function_name, object_code}
use Rattle.work_gen.specs.Objects.{code_section, relocation_section, symbol_table, symbols, symbol_names, sections}
use Rattle.work_gen.specs.Objects.{section_name as text_name}
use Rattle.work_forms.specs.ObjectFiles.{HasSymbol}
use Rattle.work_forms.proofs.RuleLaws.{few_functions}
use Rattle.work_forms.proofs.SectionLaws.{section_read}
use Rattle.work_forms.proofs.ObjectLaws.{some_functions, writable}
use Rattle.work_forms.proofs.SymbolLaws.{code_at, relocations_at, names_at, count_is, of_section, of_function}
use Rattle.work_forms.proofs.PlacedLaws.{IsPlaced}
use Rattle.work_forms.proofs.RelocationLaws.{IsCall, section_there, code_loaded, call_read}
use Rattle.work_forms.proofs.AcceptedLaws.{no_patches, unloaded, given, table_placed, last_placed, section_number}

-- the section of a function
pub record IsCode (file : List ℕ) (count : ℕ) (constants : ℕ → ℕ) (i : ℕ) : Type 0 where
  pub name : section_name file (suc i) ≡ text_name i
  pub kind : (section_header file (suc i)).kind ≡ 1
  pub flags : (section_header file (suc i)).flags ≡ 6
  pub alignment : (section_header file (suc i)).align ≡ 16
  pub size : (section_header file (suc i)).size ≡ length (object_code count constants i)
  pub content : section_bytes file (suc i) ≡ object_code count constants i
  pub loaded : is_loaded file (suc i) ≡ true
  pub patches : patches_loaded file (suc i) ≡ false

-- a section of relocations
pub record IsPatch (file : List ℕ) (i k : ℕ) : Type 0 where
  pub call : IsCall file k i
  pub patches : patches_loaded file k ≡ true
  pub target : (section_header file k).info ≡ suc i

-- the symbols of a function
pub record HasFunction (file : List ℕ) (count : ℕ) (constants : ℕ → ℕ) (i : ℕ) : Type 0 where
  pub of_section : HasSymbol file (suc i) 0 0x03 (suc i)
  pub of_function : HasSymbol file (suc (count + i)) (length (object_code count constants i)) 0x12 (suc i)
  pub name : symbol_name file (suc (count + i)) ≡ function_name i

-- all that the sections as they are compared depend on
pub record IsObject (file : List ℕ) (count : ℕ) (constants : ℕ → ℕ) : Type 0 where
  pub some : 1 ≤ count
  pub few : count ≤ 512
  pub total : section_count file ≡ 2 * count + 3
  pub symbols : symbol_count file ≡ 2 * count + 1
  pub code : (i : ℕ) → i < count → IsCode file count constants i
  pub functions : (i : ℕ) → i < count → HasFunction file count constants i
  pub calls : (i : ℕ) → i < count - 1 → IsPatch file i (suc (count + i))
  pub unloaded : (i : ℕ) → count < i → i < 2 * count + 3 → is_loaded file i ≡ false
  pub quiet : (i : ℕ) → 2 * count ≤ i → i < 2 * count + 3 → patches_loaded file i ≡ false

-- all sections, and all symbols
pub by_section : (P : ℕ → Type 0) (count : ℕ) → P 0 → ((i : ℕ) → i < count → P (suc i))
    → ((j : ℕ) → count < j → j < 2 * count + 3 → P j) → (j : ℕ) → j < 2 * count + 3 → P j
by_section P count first code others zero below = first
by_section P count first code others (suc j) below =
    elim (cases_lt j count) [
      | inl under ↦ code j under
      | inr past ↦ others (suc j) (omega (arith, past)) below
    ]

pub by_place : (P : ℕ → Type 0) (count : ℕ) → P 0 → ((i : ℕ) → i < count → P (suc i))
    → ((i : ℕ) → i < count - 1 → P (suc (count + i)))
    → ((j : ℕ) → 2 * count ≤ j → j < 2 * count + 3 → P j) → (j : ℕ) → j < 2 * count + 3 → P j
by_place P count first code calls others zero below = first
by_place P count first code calls others (suc j) below =
    elim (cases_lt j count) [
      | inl under ↦ code j under
      | inr past ↦ elim (cases_lt (suc j) (2 * count)) [
        | inl patch ↦ let e : suc (count + (j - count)) ≡ suc j = omega (arith, past) in
            subst P e (calls (j - count) (omega (arith, past, patch)))
        | inr later ↦ others (suc j) later below
      ]
    ]

pub by_symbol : (P : ℕ → Type 0) (count : ℕ) → P 0 → ((i : ℕ) → i < count → P (suc i))
    → ((i : ℕ) → i < count → P (suc (count + i))) → (j : ℕ) → j < 2 * count + 1 → P j
by_symbol P count first sections functions zero below = first
by_symbol P count first sections functions (suc j) below =
    elim (cases_lt j count) [
      | inl under ↦ sections j under
      | inr past ↦ let e : suc (count + (j - count)) ≡ suc j = omega (arith, past) in
          subst P e (functions (j - count) (omega (arith, past, below)))
    ]

code_is : (number : ℕ) (constants : ℕ → ℕ) (i : ℕ) → i < function_count number
    → IsCode (elf_file (sections (function_count number) constants)) (function_count number) constants i
unfolding code_section
code_is number constants i below =
    let count = function_count number in
    let file = elf_file (sections count constants) in
    let s = code_section count constants i in
    let e : i + 1 ≡ suc i = omega arith in
    let placed = subst (λ k. IsPlaced file k s) e (given number constants i s (code_at count constants i below)) in
    let read = section_read (sections count constants) i s (writable number constants)
    (code_at count constants i below) in
    let other : ((section_header file (suc i)).kind == 9) ≡ false = ap (λ k. k == 9) placed.kind in
    record {
      name = placed.name;
      kind = placed.kind;
      flags = placed.flags;
      alignment = placed.alignment;
      size = placed.content.size;
      content = subst (λ k. section_bytes file k ≡ object_code count constants i) e read.content;
      loaded = subst (λ k. is_loaded file k ≡ true) e (code_loaded number constants i below);
      patches = no_patches file (suc i) other;
    }

patch_is : (file : List ℕ) (k i : ℕ) → is_section file k ≡ true → (section_header file k).kind ≡ 9
    → (section_header file k).info ≡ suc i → is_loaded file (suc i) ≡ true → IsCall file k i → IsPatch file i k
unfolding patches_loaded
patch_is file k i there kind info loaded call =
    record { call = call; patches = rw (there, kind, info, loaded) refl; target = info }

call_is : (number : ℕ) (constants : ℕ → ℕ) (i : ℕ) → i < function_count number - 1
    → IsPatch (elf_file (sections (function_count number) constants)) i (suc (function_count number + i))
unfolding relocation_section
call_is number constants i below =
    let count = function_count number in
    let file = elf_file (sections count constants) in
    let s = relocation_section count i in
    let e : count + i + 1 ≡ suc (count + i) = omega arith in
    let next : i + 1 ≡ suc i = omega arith in
    let placed = subst (λ k. IsPlaced file k s) e
    (given number constants (count + i) s (relocations_at count constants i below)) in
    let call = subst (λ k. IsCall file k i) e (call_read number constants i below) in
    let total = section_number number constants in
    patch_is file (suc (count + i)) i
    (section_there file (suc (count + i)) (omega arith) (omega (arith, below, total)))
    placed.kind (placed.info ∙ next) (code_is number constants i (omega (arith, below))).loaded call

functions_are : (number : ℕ) (constants : ℕ → ℕ) (i : ℕ) → i < function_count number
    → HasFunction (elf_file (sections (function_count number) constants)) (function_count number) constants i
functions_are number constants i below =
    let count = function_count number in
    let file = elf_file (sections count constants) in
    let size = length (object_code count constants i) in
    let next : i + 1 ≡ suc i = omega arith in
    let e : count + 1 + i ≡ suc (count + i) = omega arith in
    let one = (of_section number constants i below).0 in
    let two = of_function number constants i below in
    record {
      of_section = subst (λ k. HasSymbol file k 0 0x03 k) next one;
      of_function =
          subst (λ k. HasSymbol file k size 0x12 (suc i)) e
          (subst (λ s. HasSymbol file (count + 1 + i) size 0x12 s) next two.0);
      name = subst (λ k. symbol_name file k ≡ function_name i) e two.1;
    }

-- the sections behind those of functions
record IsQuiet (file : List ℕ) (j : ℕ) : Type 0 where
  unloaded_there : is_loaded file j ≡ false
  quiet_there : patches_loaded file j ≡ false

quiet_by : (file : List ℕ) (j : ℕ) (s : Section) → IsPlaced file j s → s.flags ≡ 0 → (s.kind == 9) ≡ false
    → IsQuiet file j
quiet_by file j s placed flags other =
    record {
      unloaded_there = unloaded file j (placed.flags ∙ flags);
      quiet_there = no_patches file j (ap (λ k. k == 9) placed.kind ∙ other);
    }

quiet_table : (number : ℕ) (constants : ℕ → ℕ)
    → IsQuiet (elf_file (sections (function_count number) constants)) (2 * function_count number)
unfolding symbol_table
quiet_table number constants =
    let count = function_count number in
    quiet_by (elf_file (sections count constants)) (2 * count) (symbol_table count (symbols count constants))
    (table_placed number constants) refl refl

quiet_names : (number : ℕ) (constants : ℕ → ℕ)
    → IsQuiet (elf_file (sections (function_count number) constants)) (2 * function_count number + 1)
unfolding string_table
quiet_names number constants =
    let count = function_count number in
    let s = string_table (codes ".strtab") (symbol_names count) in
    quiet_by (elf_file (sections count constants)) (2 * count + 1) s
    (given number constants (2 * count) s (names_at number constants)) refl refl

quiet_last : (number : ℕ) (constants : ℕ → ℕ)
    → IsQuiet (elf_file (sections (function_count number) constants)) (2 * function_count number + 2)
unfolding section_name_table string_table
quiet_last number constants =
    let all = sections (function_count number) constants in
    quiet_by (elf_file all) (2 * function_count number + 2) (section_name_table all) (last_placed number constants)
    refl refl

quiet_is : (number : ℕ) (constants : ℕ → ℕ) (j : ℕ) → 2 * function_count number ≤ j
    → j < 2 * function_count number + 3 → IsQuiet (elf_file (sections (function_count number) constants)) j
quiet_is number constants j above below =
    let count = function_count number in
    let P : ℕ → Type 0 = λ k. IsQuiet (elf_file (sections count constants)) k in
    elim (cases_lt j (2 * count + 1)) [
      | inl table ↦ let e : 2 * count ≡ j = omega (arith, above, table) in subst P e (quiet_table number constants)
      | inr past ↦ elim (cases_lt j (2 * count + 2)) [
        | inl names ↦ let e : 2 * count + 1 ≡ j = omega (arith, past, names) in
            subst P e (quiet_names number constants)
        | inr last ↦ let e : 2 * count + 2 ≡ j = omega (arith, last, below) in
            subst P e (quiet_last number constants)
      ]
    ]

call_unloaded : (number : ℕ) (constants : ℕ → ℕ) (i : ℕ) → i < function_count number - 1
    → is_loaded (elf_file (sections (function_count number) constants)) (function_count number + i + 1) ≡ false
unfolding relocation_section
call_unloaded number constants i below =
    let count = function_count number in
    unloaded (elf_file (sections count constants)) (count + i + 1)
    (given number constants (count + i) (relocation_section count i) (relocations_at count constants i below)).flags

unloaded_behind : (number : ℕ) (constants : ℕ → ℕ) (j : ℕ) → function_count number < j
    → j < 2 * function_count number + 3
    → is_loaded (elf_file (sections (function_count number) constants)) j ≡ false
unloaded_behind number constants j above below =
    let count = function_count number in
    let file = elf_file (sections count constants) in
    elim (cases_lt j (2 * count)) [
      | inl calls ↦ let e : count + (j - count - 1) + 1 ≡ j = omega (arith, above) in
          subst (λ k. is_loaded file k ≡ false) e
          (call_unloaded number constants (j - count - 1) (omega (arith, above, calls)))
      | inr past ↦ (quiet_is number constants j past below).unloaded_there
    ]

pub object_is : (number : ℕ) (constants : ℕ → ℕ)
    → IsObject (elf_file (sections (function_count number) constants)) (function_count number) constants
object_is number constants =
    record {
      some = some_functions number;
      few = few_functions number;
      total = section_number number constants;
      symbols = count_is number constants;
      code = code_is number constants;
      functions = functions_are number constants;
      calls = call_is number constants;
      unloaded = unloaded_behind number constants;
      quiet = λ j above below. (quiet_is number constants j above below).quiet_there;
    }
