-- No rule of objects is broken by a section of the objects of a work.
use Rattle.std.proofs.Common.{◌≡◌, ℕ, zero, suc, ◌+◌, ◌-◌, ◌*◌, ◌/◌, ◌%◌, ◌≤◌, ◌<◌, ◌==◌, Bool, true, false}
use Rattle.std.proofs.Common.{nat_le, nat_lt, if◌then◌else◌, List, [], ◌∷◌, length, codes, Option, Some, None}
use Rattle.std.proofs.Common.{refl, ap, subst, ◌∙◌, inl, inr, arith}
use Rattle.std.specs.List.{slice_get}
use Rattle.std.proofs.lemmas.Bool.{cases_lt}
use Rattle.std.proofs.lemmas.Bool.Decides.{nat_tests}
use Rattle.i386_reloc.specs.Below.{first_below, sum_below, count_below}
use Rattle.i386_reloc.specs.Fields.{section_header, section_count, is_section, is_symbol_table, is_string_table}
use Rattle.i386_reloc.specs.Fields.{is_loaded}
use Rattle.i386_reloc.specs.Fields.{patches_loaded, entry_count}
use Rattle.i386_reloc.specs.Rules.{can_be_loaded, place_fault, symbol_table_fault, relocation_section_fault}
use Rattle.i386_reloc.specs.Rules.{loaded_size}
use Rattle.i386_reloc.specs.Rules.{content_fault, section_fault, only_where}
use Rattle.i386_reloc.specs.ObjectFault.{ObjectFault}
use Rattle.work_gen.specs.declared.types.Section.{Section}
use Rattle.work_gen.specs.ElfFile.{string_table, section_name_table, elf_file}
use Rattle.work_gen.specs.Functions.{function_count}
use Rattle.work_gen.specs.Objects.{code_section, relocation_section, symbols, symbol_names, sections}
use Rattle.work_gen.specs.Objects.{symbol_table as symbol_section}
use Rattle.work_forms.proofs.RuleLaws.{few_functions}
use Rattle.work_forms.proofs.SectionLaws.{count_read}
use Rattle.work_forms.proofs.ObjectLaws.{code_small, relocations_small, symbols_length, sections_length, some_functions}
use Rattle.work_forms.proofs.ObjectLaws.{writable, code_few}
use Rattle.work_forms.proofs.SymbolLaws.{get_left, get_right, code_at, relocations_at, table_at, names_at, not_before}
use Rattle.work_forms.proofs.SymbolLaws.{no_table, a_table, and_false}
use Rattle.work_forms.proofs.PlacedLaws.{IsPlaced, placed, place_kept, lies}
use Rattle.work_forms.proofs.RelocationLaws.{call_read, section_there}

-- sums of small numbers
sum_ones : (f : ℕ → ℕ) (n : ℕ) → ((j : ℕ) → j < n → f j ≤ 1) → sum_below f n ≤ n
sum_ones f zero few = omega arith
sum_ones f (suc n) few = omega (arith, sum_ones f n (λ j below. few j (omega arith)), few n (omega arith))

sum_small : (f : ℕ → ℕ) (n : ℕ) → ((j : ℕ) → j < n → f j ≤ 32) → sum_below f n ≤ 32 * n
sum_small f zero few = omega arith
sum_small f (suc n) few = omega (arith, sum_small f n (λ j below. few j (omega arith)), few n (omega arith))

count_none : (test : ℕ → Bool) (n : ℕ) → ((j : ℕ) → j < n → test j ≡ false) → count_below test n ≡ 0
count_none test zero fails = refl
count_none test (suc n) fails =
    rw (fails n (omega arith)) (omega (arith, count_none test n (λ j below. fails j (omega arith))))

-- what the rules ask of one section, but for the sums over those before it
pub record IsKept (file : List ℕ) (i : ℕ) : Type 0 where
  pub place : place_fault file i ≡ None
  pub table : only_where ((section_header file i).kind == 2) (symbol_table_fault file i) ≡ None
  pub patch : nat_le (sum_below (entry_count file) (suc i)) 262144 ≡ true
      → only_where (patches_loaded file i) (relocation_section_fault file i) ≡ None
  pub not_rela : ((section_header file i).kind == 4) ≡ false
  pub entries : entry_count file i ≤ 1
  pub loaded : loaded_size file i ≤ 32

only_none : (b : Bool) (fault : Option ObjectFault) → fault ≡ None → only_where b fault ≡ None
only_none true fault none = none
only_none false fault none = refl

pub no_patches : (file : List ℕ) (i : ℕ) → ((section_header file i).kind == 9) ≡ false → patches_loaded file i ≡ false
unfolding patches_loaded
no_patches file i other = rw (other, and_false (is_section file i)) refl

pub no_entries : (file : List ℕ) (i : ℕ) → ((section_header file i).kind == 9) ≡ false → entry_count file i ≡ 0
unfolding entry_count
no_entries file i other = rw (no_patches file i other) refl

pub unloaded : (file : List ℕ) (i : ℕ) → (section_header file i).flags ≡ 0 → is_loaded file i ≡ false
unfolding is_loaded
unloaded file i flags = rw (flags, and_false (is_section file i)) refl

nothing_loaded : (file : List ℕ) (i : ℕ) → (section_header file i).flags ≡ 0 → loaded_size file i ≤ 32
unfolding loaded_size
nothing_loaded file i flags = rw (unloaded file i flags) (omega arith)

few_loaded : (file : List ℕ) (i : ℕ) → (section_header file i).size ≤ 32 → loaded_size file i ≤ 32
unfolding loaded_size
few_loaded file i few =
    elim (is_loaded file i) as (λ b. (if b then (section_header file i).size else 0) ≤ 32) [
      | true ↦ few
      | false ↦ omega arith
    ]

-- a section that is neither a symbol table nor of relocations
plain : (file : List ℕ) (i : ℕ) (s : Section) → IsPlaced file i s → length s.name ≤ 15
    → can_be_loaded (section_header file i) ≡ true → (s.kind == 2) ≡ false → (s.kind == 9) ≡ false
    → (s.kind == 4) ≡ false → loaded_size file i ≤ 32 → IsKept file i
plain file i s is few can no_symbols no_entries_here not_rela loaded =
    let no_rel : ((section_header file i).kind == 9) ≡ false = ap (λ k. k == 9) is.kind ∙ no_entries_here in
    let none = no_entries file i no_rel in
    record {
      place = place_kept file i s is (omega (arith, few)) can;
      table = rw (is.kind, no_symbols) refl;
      patch = λ sum. rw (no_patches file i no_rel) refl;
      not_rela = ap (λ k. k == 4) is.kind ∙ not_rela;
      entries = omega (arith, none);
      loaded = loaded;
    }

-- all sections of an object, by their numbers
pub given : (number : ℕ) (constants : ℕ → ℕ) (k : ℕ) (s : Section)
    → slice_get (sections (function_count number) constants) k ≡ Some s
    → IsPlaced (elf_file (sections (function_count number) constants)) (k + 1) s
given number constants k s at =
    let all = sections (function_count number) constants in
    placed all k s (writable number constants) (get_left all (section_name_table all ∷ []) k s at)

code_kept : (number : ℕ) (constants : ℕ → ℕ) (i : ℕ) → i < function_count number
    → IsKept (elf_file (sections (function_count number) constants)) (i + 1)
unfolding code_section
code_kept number constants i below =
    let count = function_count number in
    let file = elf_file (sections count constants) in
    let s = code_section count constants i in
    let is = given number constants i s (code_at count constants i below) in
    let small = code_small count constants i (omega (arith, below, few_functions number)) in
    let size = is.content.size in
    plain file (i + 1) s is small.named (rw (is.alignment, is.flags) refl) refl refl refl
    (few_loaded file (i + 1) (omega (arith, size, code_few count constants i)))

relocations_kept : (number : ℕ) (constants : ℕ → ℕ) (i : ℕ) → i < function_count number - 1
    → is_symbol_table (elf_file (sections (function_count number) constants)) (2 * function_count number) ≡ true
    → IsKept (elf_file (sections (function_count number) constants)) (function_count number + i + 1)
unfolding relocation_section relocation_section_fault
relocations_kept number constants i below table =
    let count = function_count number in
    let file = elf_file (sections count constants) in
    let k = count + i + 1 in
    let s = relocation_section count i in
    let is = given number constants (count + i) s (relocations_at count constants i below) in
    let small = relocations_small count i (few_functions number) (omega (arith, below, few_functions number)) in
    let one = (call_read number constants i below).number in
    record {
      place = place_kept file k s is (let named = small.named in omega (arith, named))
          (rw (is.alignment, is.flags) refl);
      table = rw is.kind refl;
      patch = λ sum. only_none (patches_loaded file k) (relocation_section_fault file k)
          (rw (is.entry_size, is.content.size, is.link, table, sum) refl);
      not_rela = ap (λ k. k == 4) is.kind;
      entries = omega (arith, one);
      loaded = nothing_loaded file k is.flags;
    }

names_kept : (number : ℕ) (constants : ℕ → ℕ)
    → IsKept (elf_file (sections (function_count number) constants)) (2 * function_count number + 1)
unfolding string_table
names_kept number constants =
    let count = function_count number in
    let file = elf_file (sections count constants) in
    let k = 2 * count + 1 in
    let s = string_table (codes ".strtab") (symbol_names count) in
    let is = given number constants (2 * count) s (names_at number constants) in
    plain file k s is (omega arith) (rw (is.alignment, is.flags) refl) refl refl refl
    (nothing_loaded file k is.flags)

pub last_placed : (number : ℕ) (constants : ℕ → ℕ)
    → IsPlaced (elf_file (sections (function_count number) constants)) (2 * function_count number + 2)
    (section_name_table (sections (function_count number) constants))
last_placed number constants =
    let count = function_count number in
    let all = sections count constants in
    let k = 2 * count + 1 in
    let e : k + 1 ≡ 2 * count + 2 = omega arith in
    let long = sections_length count constants (some_functions number) in
    subst (λ n. IsPlaced (elf_file all) n (section_name_table all)) e
    (placed all k (section_name_table all) (writable number constants)
    (get_right all (section_name_table all ∷ []) k 0 (omega (arith, long))))

last_kept : (number : ℕ) (constants : ℕ → ℕ)
    → IsKept (elf_file (sections (function_count number) constants)) (2 * function_count number + 2)
unfolding section_name_table string_table
last_kept number constants =
    let count = function_count number in
    let all = sections count constants in
    let file = elf_file all in
    let k = 2 * count + 2 in
    let is = last_placed number constants in
    plain file k (section_name_table all) is (omega arith) (rw (is.alignment, is.flags) refl) refl refl refl
    (nothing_loaded file k is.flags)

pub section_number : (number : ℕ) (constants : ℕ → ℕ)
    → section_count (elf_file (sections (function_count number) constants)) ≡ 2 * function_count number + 3
section_number number constants =
    omega (
      arith,
      count_read (sections (function_count number) constants) (writable number constants),
      sections_length (function_count number) constants (some_functions number),
    )

pub table_placed : (number : ℕ) (constants : ℕ → ℕ)
    → IsPlaced (elf_file (sections (function_count number) constants)) (2 * function_count number)
    (symbol_section (function_count number) (symbols (function_count number) constants))
table_placed number constants =
    let count = function_count number in
    let s = symbol_section count (symbols count constants) in
    let e : 2 * count - 1 + 1 ≡ 2 * count = omega (arith, some_functions number) in
    subst (λ n. IsPlaced (elf_file (sections count constants)) n s) e
    (given number constants (2 * count - 1) s (table_at number constants))

table_true : (number : ℕ) (constants : ℕ → ℕ)
    → is_symbol_table (elf_file (sections (function_count number) constants)) (2 * function_count number) ≡ true
unfolding symbol_section
table_true number constants =
    let count = function_count number in
    a_table (elf_file (sections count constants)) (2 * count) (omega (arith, some_functions number))
    (omega (arith, section_number number constants)) (table_placed number constants).kind

one_table : (number : ℕ) (constants : ℕ → ℕ)
    → count_below (is_symbol_table (elf_file (sections (function_count number) constants)))
    (section_count (elf_file (sections (function_count number) constants))) ≡ 1
unfolding string_table section_name_table
one_table number constants =
    let count = function_count number in
    let file = elf_file (sections count constants) in
    let test = is_symbol_table file in
    let n = 2 * count in
    let e : section_count file ≡ suc (suc (suc n)) = omega (arith, section_number number constants) in
    let next : 2 * count + 1 ≡ suc n = omega arith in
    let last : 2 * count + 2 ≡ suc (suc n) = omega arith in
    let names = given number constants (2 * count)
    (string_table (codes ".strtab") (symbol_names count)) (names_at number constants) in
    let second : test (suc n) ≡ false =
    subst (λ k. test k ≡ false) next (no_table file (2 * count + 1) (ap (λ k. k == 2) names.kind)) in
    let third : test (suc (suc n)) ≡ false =
    subst (λ k. test k ≡ false) last
    (no_table file (2 * count + 2) (ap (λ k. k == 2) (last_placed number constants).kind)) in
    ap (count_below test) e
    ∙ rw (count_none test n (not_before number constants), table_true number constants, second, third) refl

table_kept : (number : ℕ) (constants : ℕ → ℕ)
    → IsKept (elf_file (sections (function_count number) constants)) (2 * function_count number)
unfolding symbol_section symbol_table_fault string_table
table_kept number constants =
    let count = function_count number in
    let file = elf_file (sections count constants) in
    let k = 2 * count in
    let s = symbol_section count (symbols count constants) in
    let is = table_placed number constants in
    let names = given number constants (2 * count)
    (string_table (codes ".strtab") (symbol_names count)) (names_at number constants) in
    let size : (section_header file k).size ≡ 16 + 32 * count =
    is.content.size ∙ symbols_length count constants in
    let whole : ((16 + 32 * count) % 16 == 0) ≡ true =
    let e : (16 + 32 * count) % 16 ≡ 0 = omega arith in ap (λ n. n == 0) e in
    let few : nat_le ((16 + 32 * count) / 16) 65536 ≡ true =
    let e : (16 + 32 * count) / 16 ≤ 65536 = omega (arith, few_functions number) in grind (arith, nat_tests) in
    let there : is_section file (2 * count + 1) ≡ true =
    section_there file (2 * count + 1) (omega arith) (omega (arith, section_number number constants)) in
    let texts : is_string_table file (section_header file (2 * count + 1)) ≡ true =
    rw (names.kind, lies file (2 * count + 1) (symbol_names count) names.content) refl in
    let no_rel : ((section_header file k).kind == 9) ≡ false = ap (λ k. k == 9) is.kind in
    let none = no_entries file k no_rel in
    record {
      place = place_kept file k s is (omega arith) (rw (is.alignment, is.flags) refl);
      table = only_none ((section_header file k).kind == 2) (symbol_table_fault file k)
          (rw (one_table number constants, is.entry_size, size, is.link, there, texts, whole, few) refl);
      patch = λ sum. rw (no_patches file k no_rel) refl;
      not_rela = ap (λ k. k == 4) is.kind;
      entries = omega (arith, none);
      loaded = nothing_loaded file k is.flags;
    }

pub all_kept : (number : ℕ) (constants : ℕ → ℕ) (j : ℕ) → j < 2 * function_count number + 2
    → IsKept (elf_file (sections (function_count number) constants)) (suc j)
all_kept number constants j below =
    let count = function_count number in
    let file = elf_file (sections count constants) in
    let P : ℕ → Type 0 = λ n. IsKept file n in
    let some = some_functions number in
    elim (cases_lt j count) [
      | inl code ↦ let e : j + 1 ≡ suc j = omega arith in subst P e (code_kept number constants j code)
      | inr past ↦ elim (cases_lt j (2 * count - 1)) [
        | inl calls ↦ let e : count + (j - count) + 1 ≡ suc j = omega (arith, past) in
            subst P e (relocations_kept number constants (j - count) (omega (arith, past, calls))
            (table_true number constants))
        | inr after ↦ elim (cases_lt j (2 * count)) [
          | inl table ↦ let e : 2 * count ≡ suc j = omega (arith, some, after, table) in
              subst P e (table_kept number constants)
          | inr later ↦ elim (cases_lt j (2 * count + 1)) [
            | inl names ↦ let e : 2 * count + 1 ≡ suc j = omega (arith, later, names) in
                subst P e (names_kept number constants)
            | inr last ↦ let e : 2 * count + 2 ≡ suc j = omega (arith, last, below) in
                subst P e (last_kept number constants)
          ]
        ]
      ]
    ]

entries_first : (file : List ℕ) → entry_count file 0 ≤ 1
unfolding entry_count patches_loaded is_section
entries_first file = omega arith

loaded_first : (file : List ℕ) → loaded_size file 0 ≤ 32
unfolding loaded_size is_loaded is_section
loaded_first file = omega arith

entries_few : (number : ℕ) (constants : ℕ → ℕ) (j : ℕ) → j < 2 * function_count number + 3
    → entry_count (elf_file (sections (function_count number) constants)) j ≤ 1
entries_few number constants zero below = entries_first (elf_file (sections (function_count number) constants))
entries_few number constants (suc j) below = (all_kept number constants j (omega arith)).entries

loaded_few : (number : ℕ) (constants : ℕ → ℕ) (j : ℕ) → j < 2 * function_count number + 3
    → loaded_size (elf_file (sections (function_count number) constants)) j ≤ 32
loaded_few number constants zero below = loaded_first (elf_file (sections (function_count number) constants))
loaded_few number constants (suc j) below = (all_kept number constants j (omega arith)).loaded

pub within : (a b : ℕ) → a ≤ b → nat_le a b ≡ true
within a b le = grind (arith, nat_tests)

pub below_is : (a b : ℕ) → a < b → nat_lt a b ≡ true
below_is a b lt = grind (arith, nat_tests)

section_kept : (number : ℕ) (constants : ℕ → ℕ) (j : ℕ) → j < 2 * function_count number + 2
    → section_fault (elf_file (sections (function_count number) constants)) (suc j) ≡ None
unfolding section_fault content_fault
section_kept number constants j below =
    let file = elf_file (sections (function_count number) constants) in
    let i = suc j in
    let few = few_functions number in
    let is = all_kept number constants j below in
    let entries : sum_below (entry_count file) (suc i) ≤ suc i =
    sum_ones (entry_count file) (suc i) (λ k under. entries_few number constants k (omega (arith, under, below))) in
    let bytes : sum_below (loaded_size file) (suc i) ≤ 32 * suc i =
    sum_small (loaded_size file) (suc i) (λ k under. loaded_few number constants k (omega (arith, under, below))) in
    let entries_within : sum_below (entry_count file) (suc i) ≤ 262144 = omega (arith, entries, below, few) in
    let bytes_within : sum_below (loaded_size file) (suc i) ≤ 8388608 = omega (arith, bytes, below, few) in
    let first = within (sum_below (entry_count file) (suc i)) 262144 entries_within in
    let second = within (sum_below (loaded_size file) (suc i)) 8388608 bytes_within in
    rw (is.place, is.table, is.patch first, is.not_rela, second) refl

pub all_none : {X : Type 0} (f : ℕ → Option X) (n : ℕ) → ((j : ℕ) → j < n → f j ≡ None) → first_below f n ≡ None
all_none f zero none = refl
all_none f (suc n) none = rw (all_none f n (λ j below. none j (omega arith)), none n (omega arith)) refl

first_section : (file : List ℕ) → section_fault file 0 ≡ None
unfolding section_fault
first_section file = refl

section_none : (number : ℕ) (constants : ℕ → ℕ) (j : ℕ) → j < 2 * function_count number + 3
    → section_fault (elf_file (sections (function_count number) constants)) j ≡ None
section_none number constants zero below = first_section (elf_file (sections (function_count number) constants))
section_none number constants (suc j) below = section_kept number constants j (omega arith)

pub sections_kept : (number : ℕ) (constants : ℕ → ℕ)
    → first_below (section_fault (elf_file (sections (function_count number) constants)))
    (section_count (elf_file (sections (function_count number) constants))) ≡ None
sections_kept number constants =
    let file = elf_file (sections (function_count number) constants) in
    ap (first_below (section_fault file)) (section_number number constants)
    ∙ all_none (section_fault file) (2 * function_count number + 3) (section_none number constants)
