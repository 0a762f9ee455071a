-- The objects of a work have the symbols of their functions.
use Rattle.std.proofs.Common.{◌≡◌, ℕ, zero, suc, ◌+◌, ◌-◌, ◌*◌, ◌≤◌, ◌<◌, ◌^◌, ◌&&◌, ◌==◌, Bool, true, false}
use Rattle.std.proofs.Common.{List, [], ◌∷◌, ◌++◌, length, drop, map, codes, slice_index}
use Rattle.std.proofs.Common.{Some, None, unwrap_or, refl, ap, sym, subst, ◌∙◌, inl, inr, arith}
use Rattle.std.proofs.Common.{length-append, append_assoc}
use Rattle.std.specs.List.{slice_get, flat_map}
use Rattle.std.specs.Option.{option_map}
use Rattle.std.proofs.lemmas.Bool.{cases_lt}
use Rattle.std.proofs.lemmas.Bool.Decides.{nat_tests}
use Rattle.std.proofs.lemmas.Grind.{flat_map-append}
use Rattle.std.proofs.lemmas.List.{length-map, map-append}
use Rattle.std.proofs.lemmas.List.FromFn.{length-range_with_len, get_or-range_with_len}
use Rattle.std.proofs.lemmas.Option.{slice_get-map, slice_get-get_or}
use Rattle.byteorder.specs.Numbers.{little_number-reads_back}
use Rattle.byteorder.specs.Endian.{little_number}
use Rattle.i386_reloc.specs.Below.{least_below}
use Rattle.i386_reloc.specs.Fields.{half_at, word_at, section_header, section_count, bytes_named, is_section}
use Rattle.i386_reloc.specs.Fields.{is_symbol_table, symbol_table, symbol_count_in, symbol_count, symbol_entry_at}
use Rattle.i386_reloc.specs.Fields.{symbol_entry, symbol_names, symbol_name, text_at}
use Rattle.work_gen.specs.Encoding.{half, word, zeros, ended, name_table}
use Rattle.work_gen.specs.ElfFile.{string_table, elf_file}
use Rattle.work_gen.specs.Functions.{function_count, functions, function_name, object_code, old_constant, new_constant}
use Rattle.work_gen.specs.Objects.{code_section, relocation_section, symbol, section_symbol, function_symbols, symbols}
use Rattle.work_gen.specs.Objects.{symbol_table as symbol_section, symbol_names as names_of_symbols, sections}
use Rattle.work_gen.specs.Objects.{object_file, old_object, new_object}
use Rattle.work_gen.specs.Work.{work_of}
use Rattle.work_forms.specs.ObjectFiles.{IsReadAs, HasSymbol, HasSymbols}
use Rattle.work_forms.proofs.RuleLaws.{few_functions, name_shown}
use Rattle.std.specs.List.{list_any}
use Rattle.i386_reloc.specs.Fields.{is_zero, ends_in}
use Rattle.work_forms.proofs.WrittenLaws.{drop_before, drop_front, name_read}
use Rattle.work_forms.proofs.PlacedLaws.{zero_in}
use Rattle.work_forms.proofs.SectionLaws.{HasContent, named_bytes, content_read, count_read, section_read, stands}
use Rattle.work_forms.proofs.ObjectLaws.{section_symbols_length, function_symbols_length, symbols_length}
use Rattle.work_forms.proofs.ObjectLaws.{sections_length, some_functions, writable, symbol_names_few, code_few}

-- a symbol that was written behind some bytes
index_before : (before rest : List ℕ) (k : ℕ) → slice_index (before ++ rest) (length before + k) ≡ slice_index rest k
index_before [] rest k = let e : 0 + k ≡ k = omega arith in ap (slice_index rest) e
index_before (x ∷ before) rest k =
    let n = length before in
    let e : suc n + k ≡ suc (n + k) = omega arith in
    ap (slice_index ((x ∷ before) ++ rest)) e ∙ index_before before rest k

half_read : (n : ℕ) (rest : List ℕ) → n < 2 ^ 16 → little_number 2 (half n ++ rest) ≡ n
half_read n rest small = little_number-reads_back 2 n rest small

pub word_read : (n : ℕ) (rest : List ℕ) → n < 2 ^ 32 → little_number 4 (word n ++ rest) ≡ n
word_read n rest small = little_number-reads_back 4 n rest small

record IsEntry (bytes : List ℕ) (place name size info section : ℕ) : Type 0 where
  name_is : (symbol_entry_at bytes place).name ≡ name
  value_is : (symbol_entry_at bytes place).value ≡ 0
  size_is : (symbol_entry_at bytes place).size ≡ size
  info_is : (symbol_entry_at bytes place).info ≡ info
  section_is : (symbol_entry_at bytes place).section ≡ section

entry_behind : (before rest : List ℕ) (name size info section : ℕ) → name < 2 ^ 32 → size < 2 ^ 32 → section < 2 ^ 16
    → IsEntry (before ++ (symbol name size info section ++ rest)) (length before) name size info section
unfolding symbol_entry_at word_at half_at symbol
entry_behind before rest name size info section named sized placed =
    let all = symbol name size info section ++ rest in
    let at : (k : ℕ) → drop (length before + k) (before ++ all) ≡ drop k all = drop_before before all in
    let first : length before ≡ length before + 0 = omega arith in
    record {
      name_is = ap (λ k. little_number 4 (drop k (before ++ all))) first ∙ ap (little_number 4) (at 0)
          ∙ word_read name (drop 4 all) named;
      value_is = ap (little_number 4) (at 4) ∙ word_read 0 (drop 8 all) (omega arith);
      size_is = ap (little_number 4) (at 8) ∙ word_read size (drop 12 all) sized;
      info_is = index_before before all 12;
      section_is = ap (little_number 2) (at 14) ∙ half_read section rest placed;
    }

-- an item of two lists, one after the other
pub get_left : {X : Type 0} (xs ys : List X) (k : ℕ) (x : X) → slice_get xs k ≡ Some x → slice_get (xs ++ ys) k ≡ Some x
get_left [] ys k x at = absurd cc
get_left (z ∷ xs) ys zero x at = at
get_left (z ∷ xs) ys (suc k) x at = get_left xs ys k x at

pub get_right : {X : Type 0} (xs ys : List X) (n k : ℕ) → n ≡ length xs + k → slice_get (xs ++ ys) n ≡ slice_get ys k
get_right [] ys n k e = let same : n ≡ k = omega (arith, e) in ap (slice_get ys) same
get_right (x ∷ xs) ys n k e =
    let next : n ≡ suc (length xs + k) = omega (arith, e) in
    ap (slice_get ((x ∷ xs) ++ ys)) next ∙ get_right xs ys (length xs + k) k refl

function_at : (count i : ℕ) → i < count → slice_get (functions count) i ≡ Some i
function_at count i below =
    let at : 0 + i ≡ i = omega arith in
    slice_get-get_or (functions count) i 0 (omega (arith, below, length-range_with_len 0 count))
    ∙ ap Some (get_or-range_with_len 0 count i 0 below ∙ at)

mapped_at : {X : Type 0} (f : ℕ → X) (count i : ℕ) → i < count → slice_get (map f (functions count)) i ≡ Some (f i)
mapped_at f count i below = slice_get-map f (functions count) i ∙ ap (option_map f) (function_at count i below)

pub mapped_length : {X : Type 0} (f : ℕ → X) (count : ℕ) → length (map f (functions count)) ≡ count
mapped_length f count = length-map (functions count) f ∙ length-range_with_len 0 count

-- the sections of an object, by their numbers
pub code_at : (count : ℕ) (constants : ℕ → ℕ) (i : ℕ) → i < count
    → slice_get (sections count constants) i ≡ Some (code_section count constants i)
unfolding sections
code_at count constants i below =
    let code = map (code_section count constants) (functions count) in
    let relocations = map (relocation_section count) (functions (count - 1)) in
    let table = symbol_section count (symbols count constants) in
    let names = string_table (codes ".strtab") (names_of_symbols count) in
    let this = code_section count constants i in
    get_left (code ++ relocations) (table ∷ names ∷ []) i this
    (get_left code relocations i this (mapped_at (code_section count constants) count i below))

pub relocations_at : (count : ℕ) (constants : ℕ → ℕ) (i : ℕ) → i < count - 1
    → slice_get (sections count constants) (count + i) ≡ Some (relocation_section count i)
unfolding sections
relocations_at count constants i below =
    let code = map (code_section count constants) (functions count) in
    let relocations = map (relocation_section count) (functions (count - 1)) in
    let table = symbol_section count (symbols count constants) in
    let names = string_table (codes ".strtab") (names_of_symbols count) in
    get_left (code ++ relocations) (table ∷ names ∷ []) (count + i) (relocation_section count i)
    (get_right code relocations (count + i) i (omega (arith, mapped_length (code_section count constants) count))
    ∙ mapped_at (relocation_section count) (count - 1) i below)

pub last_at : (count : ℕ) (constants : ℕ → ℕ) (n k : ℕ) → 1 ≤ count → n ≡ 2 * count - 1 + k
    → slice_get (sections count constants) n ≡ slice_get (symbol_section count (symbols count constants)
    ∷ string_table (codes ".strtab") (names_of_symbols count) ∷ []) k
unfolding sections
last_at count constants n k some e =
    let code = map (code_section count constants) (functions count) in
    let relocations = map (relocation_section count) (functions (count - 1)) in
    let table = symbol_section count (symbols count constants) in
    let names = string_table (codes ".strtab") (names_of_symbols count) in
    get_right (code ++ relocations) (table ∷ names ∷ []) n k
    (omega (
      arith,
      some,
      e,
      length-append code relocations,
      mapped_length (code_section count constants) count,
      mapped_length (relocation_section count) (count - 1),
    ))

-- the least number that passes a test
none_passes : (test : ℕ → Bool) (n : ℕ) → ((j : ℕ) → j < n → test j ≡ false) → least_below test n ≡ None
none_passes test zero fails = refl
none_passes test (suc n) fails =
    rw (none_passes test n (λ j below. fails j (omega arith)), fails n (omega arith)) refl

pub least_is : (test : ℕ → Bool) (n i : ℕ) → i < n → test i ≡ true → ((j : ℕ) → j < i → test j ≡ false)
    → least_below test n ≡ Some i
least_is test zero i within passes fails = absurd (omega arith)
least_is test (suc n) i within passes fails =
    elim (cases_lt i n) [
      | inl below ↦ rw (least_is test n i below passes fails) refl
      | inr past ↦ let e : i ≡ n = omega arith in
          let here : test n ≡ true = subst (λ k. test k ≡ true) e passes in
          rw (none_passes test n (λ j below. fails j (omega arith)), here) (ap Some (sym e))
    ]

pub and_false : (b : Bool) → (b && false) ≡ false
and_false true = refl
and_false false = refl

pub no_table : (file : List ℕ) (i : ℕ) → ((section_header file i).kind == 2) ≡ false → is_symbol_table file i ≡ false
unfolding is_symbol_table
no_table file i other = rw other (and_false (is_section file i))

pub a_table : (file : List ℕ) (i : ℕ) → 0 < i → i < section_count file → (section_header file i).kind ≡ 2
    → is_symbol_table file i ≡ true
unfolding is_symbol_table is_section
a_table file i above below kind = rw kind (grind (arith, nat_tests))

-- the symbol table is the section behind the relocations
not_code : (number : ℕ) (constants : ℕ → ℕ) (i : ℕ) → i < function_count number
    → is_symbol_table (elf_file (sections (function_count number) constants)) (i + 1) ≡ false
unfolding code_section
not_code number constants i below =
    let count = function_count number in
    let file = elf_file (sections count constants) in
    let read = section_read (sections count constants) i (code_section count constants i) (writable number constants)
    (code_at count constants i below) in
    no_table file (i + 1) (ap (λ k. k == 2) read.kind)

not_relocations : (number : ℕ) (constants : ℕ → ℕ) (i : ℕ) → i < function_count number - 1
    → is_symbol_table (elf_file (sections (function_count number) constants)) (function_count number + i + 1) ≡ false
unfolding relocation_section
not_relocations number constants i below =
    let count = function_count number in
    let file = elf_file (sections count constants) in
    let read = section_read (sections count constants) (count + i) (relocation_section count i)
    (writable number constants) (relocations_at count constants i below) in
    no_table file (count + i + 1) (ap (λ k. k == 2) read.kind)

first_is_none : (file : List ℕ) → is_symbol_table file 0 ≡ false
unfolding is_symbol_table is_section
first_is_none file = refl

pub not_before : (number : ℕ) (constants : ℕ → ℕ) (i : ℕ) → i < 2 * function_count number
    → is_symbol_table (elf_file (sections (function_count number) constants)) i ≡ false
not_before number constants zero below = first_is_none (elf_file (sections (function_count number) constants))
not_before number constants (suc i) below =
    let count = function_count number in
    let file = elf_file (sections count constants) in
    elim (cases_lt i count) [
      | inl code ↦ let e : i + 1 ≡ suc i = omega arith in
          subst (λ k. is_symbol_table file k ≡ false) e (not_code number constants i code)
      | inr past ↦ let e : count + (i - count) + 1 ≡ suc i = omega arith in
          subst (λ k. is_symbol_table file k ≡ false) e
          (not_relocations number constants (i - count) (omega (arith, below, past)))
    ]

pub table_at : (number : ℕ) (constants : ℕ → ℕ) → slice_get (sections (function_count number) constants)
    (2 * function_count number - 1) ≡ Some (symbol_section (function_count number)
    (symbols (function_count number) constants))
table_at number constants =
    last_at (function_count number) constants (2 * function_count number - 1) 0 (some_functions number) (omega arith)

pub names_at : (number : ℕ) (constants : ℕ → ℕ) → slice_get (sections (function_count number) constants)
    (2 * function_count number) ≡ Some (string_table (codes ".strtab") (names_of_symbols (function_count number)))
names_at number constants =
    last_at (function_count number) constants (2 * function_count number) 1 (some_functions number)
    (omega (arith, some_functions number))

pub table_number : (number : ℕ) → 2 * function_count number - 1 + 1 ≡ 2 * function_count number
table_number number = omega (arith, some_functions number)

pub table_read : (number : ℕ) (constants : ℕ → ℕ) → IsReadAs (elf_file (sections (function_count number) constants))
    (2 * function_count number) (symbol_section (function_count number) (symbols (function_count number) constants))
table_read number constants =
    let count = function_count number in
    let table = symbol_section count (symbols count constants) in
    subst (λ i. IsReadAs (elf_file (sections count constants)) i table) (table_number number)
    (section_read (sections count constants) (2 * count - 1) table (writable number constants)
    (table_at number constants))

pub table_is : (number : ℕ) (constants : ℕ → ℕ)
    → symbol_table (elf_file (sections (function_count number) constants)) ≡ Some (2 * function_count number)
unfolding symbol_table symbol_section
table_is number constants =
    let count = function_count number in
    let file = elf_file (sections count constants) in
    let total = count_read (sections count constants) (writable number constants) in
    let length_is = sections_length count constants (some_functions number) in
    let within : 2 * count < section_count file = omega (arith, total, length_is) in
    least_is (is_symbol_table file) (section_count file) (2 * count) within
    (a_table file (2 * count) (omega (arith, some_functions number)) within (table_read number constants).kind)
    (not_before number constants)

-- the symbols stand in the file
pub table_content : (number : ℕ) (constants : ℕ → ℕ)
    → HasContent (elf_file (sections (function_count number) constants))
    (2 * function_count number) (symbols (function_count number) constants)
unfolding symbol_section
table_content number constants =
    let count = function_count number in
    let table = symbol_section count (symbols count constants) in
    subst (λ i. HasContent (elf_file (sections count constants)) i (symbols count constants)) (table_number number)
    (content_read (sections count constants) (2 * count - 1) table (writable number constants)
    (table_at number constants))

pub count_is : (number : ℕ) (constants : ℕ → ℕ)
    → symbol_count (elf_file (sections (function_count number) constants)) ≡ 2 * function_count number + 1
unfolding symbol_count
count_is number constants =
    let file = elf_file (sections (function_count number) constants) in
    ap (symbol_count_in file) (table_is number constants)
    ∙ omega (arith, (table_content number constants).size, symbols_length (function_count number) constants)

-- symbol k, where its entry stands behind those of so many others
entry_read : (number : ℕ) (constants : ℕ → ℕ) (before rest : List ℕ) (k name size info section : ℕ)
    → symbols (function_count number) constants ≡ before ++ (symbol name size info section ++ rest)
    → length before ≡ 16 * k → name < 2 ^ 32 → size < 2 ^ 32 → section < 2 ^ 16
    → (HasSymbol (elf_file (sections (function_count number) constants)) k size info section)
    × ((symbol_entry (elf_file (sections (function_count number) constants)) k).name ≡ name)
unfolding symbol_entry
entry_read number constants before rest k name size info section parts at named sized placed =
    let count = function_count number in
    let file = elf_file (sections count constants) in
    let has = table_content number constants in
    let start = has.before ++ before in
    let all = symbol name size info section ++ (rest ++ has.rest) in
    let split : file ≡ start ++ all =
    has.parts ∙ ap (λ bytes. has.before ++ (bytes ++ has.rest)) parts ∙ simp append_assoc in
    let there = entry_behind start (rest ++ has.rest) name size info section named sized placed in
    let place : (section_header file (unwrap_or (symbol_table file) 0)).offset + 16 * k ≡ length start =
    ap (λ i. (section_header file (unwrap_or i 0)).offset + 16 * k) (table_is number constants)
    ∙ omega (arith, has.offset, at, length-append has.before before) in
    let here : IsEntry file ((section_header file (unwrap_or (symbol_table file) 0)).offset + 16 * k) name size info
    section =
    subst (λ n. IsEntry file n name size info section) (sym place)
    (subst (λ bytes. IsEntry bytes (length start) name size info section) (sym split) there) in (
      record { value = here.value_is; size_is = here.size_is; info_is = here.info_is; section_is = here.section_is },
      here.name_is,
    )

-- the symbols of sections
split_at_section : (count : ℕ) (constants : ℕ → ℕ) (i : ℕ) (before after : List ℕ)
    → functions count ≡ before ++ i ∷ after
    → symbols count constants ≡ (zeros 16 ++ flat_map section_symbol before) ++ (symbol 0 0 0x03 (i + 1)
    ++ (flat_map section_symbol after ++ function_symbols count constants 1 (functions count)))
unfolding symbols
split_at_section count constants i before after split =
    let last = function_symbols count constants 1 (functions count) in
    ap (λ bytes. (zeros 16 ++ bytes) ++ last)
    (ap (flat_map section_symbol) split ∙ flat_map-append section_symbol before (i ∷ after))
    ∙ simp append_assoc

pub of_section : (number : ℕ) (constants : ℕ → ℕ) (i : ℕ) → i < function_count number
    → (HasSymbol (elf_file (sections (function_count number) constants)) (i + 1) 0 0x03 (i + 1))
    × ((symbol_entry (elf_file (sections (function_count number) constants)) (i + 1)).name ≡ 0)
of_section number constants i below =
    let count = function_count number in
    let s = stands (functions count) i i (function_at count i below) in
    let before = zeros 16 ++ flat_map section_symbol s.before in
    let functions_part = function_symbols count constants 1 (functions count) in
    let rest = flat_map section_symbol s.after ++ functions_part in
    entry_read number constants before rest (i + 1) 0 0 0x03 (i + 1)
    (split_at_section count constants i s.before s.after s.parts)
    (omega (
      arith,
      s.place,
      length-append (zeros 16) (flat_map section_symbol s.before),
      section_symbols_length s.before,
    ))
    (omega arith) (omega arith) (omega (arith, below, few_functions number))

-- the symbols of functions, and their names
abbrev names_before : List ℕ → List ℕ
names_before is = flat_map ended (map function_name is)

split_at_function : (count : ℕ) (constants : ℕ → ℕ) (i : ℕ) (before after : List ℕ) (first name : ℕ)
    → first + length (names_before before) ≡ name
    → function_symbols count constants first (before ++ i ∷ after) ≡ function_symbols count constants first before
    ++ (symbol name (length (object_code count constants i)) 0x12 (i + 1)
    ++ function_symbols count constants (name + length (function_name i) + 1) after)
unfolding function_symbols
split_at_function count constants i [] after first name named =
    let n : first ≡ name = omega (arith, named) in
    ap (λ k. symbol k (length (object_code count constants i)) 0x12 (i + 1)
    ++ function_symbols count constants (k + length (function_name i) + 1) after) n
split_at_function count constants i (j ∷ before) after first name named =
    let next = first + length (function_name j) + 1 in
    let this = symbol first (length (object_code count constants j)) 0x12 (j + 1) in
    let last = symbol name (length (object_code count constants i)) 0x12 (i + 1)
    ++ function_symbols count constants (name + length (function_name i) + 1) after in
    ap (λ bytes. this ++ bytes) (split_at_function count constants i before after next name
    (omega (
      arith,
      named,
      length-append (ended (function_name j)) (names_before before),
      length-append (function_name j) (0 ∷ []),
    )))
    ∙ sym (append_assoc this (function_symbols count constants next before) last)

split_symbols : (count : ℕ) (constants : ℕ → ℕ) (i : ℕ) (before after : List ℕ) → functions count ≡ before ++ i ∷ after
    → symbols count constants ≡ ((zeros 16 ++ flat_map section_symbol (functions count))
    ++ function_symbols count constants 1 before)
    ++ (symbol (1 + length (names_before before)) (length (object_code count constants i)) 0x12 (i + 1)
    ++ function_symbols count constants (1 + length (names_before before) + length (function_name i) + 1) after)
unfolding symbols
split_symbols count constants i before after split =
    let first = zeros 16 ++ flat_map section_symbol (functions count) in
    let name = 1 + length (names_before before) in
    let last = symbol name (length (object_code count constants i)) 0x12 (i + 1)
    ++ function_symbols count constants (name + length (function_name i) + 1) after in
    ap (λ bytes. first ++ bytes)
    (ap (function_symbols count constants 1) split ∙ split_at_function count constants i before after 1 name refl)
    ∙ sym (append_assoc first (function_symbols count constants 1 before) last)

names_split_at : (before after : List ℕ) (i : ℕ) → names_before (before ++ i ∷ after)
    ≡ names_before before ++ (function_name i ++ 0 ∷ names_before after)
names_split_at before after i =
    ap (flat_map ended) (map-append function_name before (i ∷ after))
    ∙ flat_map-append ended (map function_name before) (map function_name (i ∷ after))
    ∙ ap (λ bytes. names_before before ++ bytes) (append_assoc (function_name i) (0 ∷ []) (names_before after))

pub of_function : (number : ℕ) (constants : ℕ → ℕ) (i : ℕ) → i < function_count number
    → (HasSymbol (elf_file (sections (function_count number) constants)) (function_count number + 1 + i)
    (length (object_code (function_count number) constants i)) 0x12 (i + 1))
    × (symbol_name (elf_file (sections (function_count number) constants)) (function_count number + 1 + i)
    ≡ function_name i)
    × (ends_in (symbol_names (elf_file (sections (function_count number) constants)))
    (symbol_entry (elf_file (sections (function_count number) constants)) (function_count number + 1 + i)).name ≡ true)
unfolding symbol_name symbol_names names_of_symbols name_table symbol_section string_table
of_function number constants i below =
    let count = function_count number in
    let file = elf_file (sections count constants) in
    let k = count + 1 + i in
    let s = stands (functions count) i i (function_at count i below) in
    let first = zeros 16 ++ flat_map section_symbol (functions count) in
    let before = first ++ function_symbols count constants 1 s.before in
    let name = 1 + length (names_before s.before) in
    let size = length (object_code count constants i) in
    let rest = function_symbols count constants (name + length (function_name i) + 1) s.after in
    let names : names_of_symbols count ≡ (0 ∷ names_before s.before) ++ (function_name i ++ 0 ∷ names_before s.after) =
    ap (λ is. 0 ∷ names_before is) s.parts ∙ ap (λ bytes. 0 ∷ bytes) (names_split_at s.before s.after i) in
    let few = symbol_names_few count (few_functions number) in
    let joined = length-append (0 ∷ names_before s.before) (function_name i ++ 0 ∷ names_before s.after) in
    let long : length before ≡ 16 * k =
    omega (
      arith,
      s.place,
      length-append first (function_symbols count constants 1 s.before),
      length-append (zeros 16) (flat_map section_symbol (functions count)),
      section_symbols_length (functions count),
      length-range_with_len 0 count,
      function_symbols_length count constants 1 s.before,
    ) in
    let read = entry_read number constants before rest k name size 0x12 (i + 1)
    (split_symbols count constants i s.before s.after s.parts) long (omega (arith, few, ap length names, joined))
    (omega (arith, code_few count constants i)) (omega (arith, below, few_functions number)) in
    let link : (section_header file (2 * count)).link ≡ 2 * count + 1 = (table_read number constants).link in
    let strings = content_read (sections count constants) (2 * count) (string_table (codes ".strtab")
    (names_of_symbols count)) (writable number constants) (names_at number constants) in
    let table : bytes_named file (section_header file (section_header file (unwrap_or (symbol_table file) 0)).link)
    ≡ names_of_symbols count =
    ap (λ t. bytes_named file (section_header file (section_header file (unwrap_or t 0)).link))
    (table_is number constants)
    ∙ ap (λ n. bytes_named file (section_header file n)) link
    ∙ named_bytes file (2 * count + 1) (names_of_symbols count) strings in
    let found : text_at ((0 ∷ names_before s.before) ++ (function_name i ++ 0 ∷ names_before s.after)) name
    ≡ function_name i =
    name_read (0 ∷ names_before s.before) (function_name i) (names_before s.after) name (omega arith)
    (name_shown i) in (
      read.0,
      ap (λ bytes. text_at bytes (symbol_entry file k).name) (table ∙ names)
          ∙ ap (text_at ((0 ∷ names_before s.before) ++ (function_name i ++ 0 ∷ names_before s.after))) read.1
          ∙ found,
      ap (λ bytes. ends_in bytes (symbol_entry file k).name) (table ∙ names)
          ∙ ap (ends_in ((0 ∷ names_before s.before) ++ (function_name i ++ 0 ∷ names_before s.after))) read.1
          ∙ ap (list_any is_zero) (drop_front (0 ∷ names_before s.before) (function_name i ++ 0 ∷ names_before s.after)
          name (omega arith))
          ∙ zero_in (function_name i) (names_before s.after),
    )

-- the names of symbols
pub names_table_is : (number : ℕ) (constants : ℕ → ℕ)
    → symbol_names (elf_file (sections (function_count number) constants)) ≡ names_of_symbols (function_count number)
unfolding symbol_names symbol_section string_table
names_table_is number constants =
    let count = function_count number in
    let file = elf_file (sections count constants) in
    let link : (section_header file (2 * count)).link ≡ 2 * count + 1 = (table_read number constants).link in
    let strings = content_read (sections count constants) (2 * count) (string_table (codes ".strtab")
    (names_of_symbols count)) (writable number constants) (names_at number constants) in
    ap (λ t. bytes_named file (section_header file (section_header file (unwrap_or t 0)).link))
    (table_is number constants)
    ∙ ap (λ n. bytes_named file (section_header file n)) link
    ∙ named_bytes file (2 * count + 1) (names_of_symbols count) strings

all_symbols : (number : ℕ) (constants : ℕ → ℕ)
    → HasSymbols (object_file (function_count number) constants) (function_count number) constants
unfolding object_file
all_symbols number constants =
    record {
      table = table_is number constants;
      number = count_is number constants;
      of_sections = λ i below. (of_section number constants i below).0;
      of_functions = λ i below. (of_function number constants i below).0;
      names = λ i below. (of_function number constants i below).1;
    }

pub pre_symbols : (number : ℕ) → HasSymbols (work_of number).pre (function_count number) (old_constant number)
unfolding work_of old_object
pre_symbols number = all_symbols number (old_constant number)

pub post_symbols : (number : ℕ) → HasSymbols (work_of number).post (function_count number) (new_constant number)
unfolding work_of new_object
post_symbols number = all_symbols number (new_constant number)
