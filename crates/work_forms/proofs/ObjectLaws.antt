-- The sections of which the objects of a work are written can be written, and so they are read.
use Rattle.std.proofs.Common.{◌≡◌, ℕ, ◌+◌, ◌-◌, ◌*◌, ◌%◌, ◌≤◌, ◌<◌, ◌^◌, List, [], ◌∷◌, ◌++◌, length, map, codes}
use Rattle.std.proofs.Common.{Some, refl, ap, sym, subst, ◌∙◌, arith, length-append}
use Rattle.std.specs.List.{slice_get, flat_map, All}
use Rattle.std.proofs.lemmas.List.{length-map, length-replicate}
use Rattle.std.proofs.lemmas.List.Elements.{All-nil, All-cons, All-head, All-tail, All-map, All-append, All-weaker}
use Rattle.std.proofs.lemmas.List.FromFn.{length-range_with_len, get_or-range_with_len}
use Rattle.i386_reloc.specs.Fields.{section_count}
use Rattle.work_gen.specs.declared.types.Section.{Section}
use Rattle.work_gen.specs.Encoding.{zeros, ended, padded, name_table}
use Rattle.work_gen.specs.ElfFile.{padded_content, contents, string_table, section_name_table, elf_file}
use Rattle.work_gen.specs.Functions.{function_count, functions, function_name, calls_next, object_code}
use Rattle.work_gen.specs.Functions.{old_constant, new_constant}
use Rattle.work_gen.specs.Objects.{section_name, code_section, relocation_section, symbol, section_symbol}
use Rattle.work_gen.specs.Objects.{function_symbols, symbols, symbol_table, symbol_names, sections, object_file}
use Rattle.work_gen.specs.Objects.{old_object, new_object}
use Rattle.work_gen.specs.Work.{work_of}
use Rattle.work_forms.specs.ObjectFiles.{IsWritable, AreWritable, IsReadAs}
use Rattle.work_forms.proofs.SpellingLaws.{short_code}
use Rattle.work_forms.proofs.RuleLaws.{few_functions, name_short, name_shown}
use Rattle.work_forms.proofs.SectionLaws.{names_of, with_names, contents_split, names_split, file_length}
use Rattle.work_forms.proofs.SectionLaws.{names_in_table, count_read, section_read}

-- what holds of each number below a bound holds of all of these
pub all_functions : (P : ℕ → Type 0) (count : ℕ) → ((i : ℕ) → i < count → P i) → All P (functions count)
all_functions P count each k d within =
    let below : k < count = omega (arith, length-range_with_len 0 count, within) in
    let at : k ≡ 0 + k = omega arith in
    subst P (at ∙ sym (get_or-range_with_len 0 count k d below)) (each k below)

-- sections of few bytes under short names
pub record IsSmall (section : Section) : Type 0 where
  pub writable : IsWritable section
  pub few : length section.content ≤ 20000
  pub named : length section.name ≤ 15

pub no_contents : contents [] ≡ []
unfolding contents
no_contents = refl

pub contents_few : (all : List Section) → All IsSmall all → length (contents all) ≤ 20003 * length all
unfolding contents padded
contents_few [] small = omega arith
contents_few (s ∷ all) small =
    let few = (All-head IsSmall s all small).few in
    omega (
      arith,
      few,
      length-append (padded_content s) (contents all),
      length-append s.content (zeros ((4 - length s.content % 4) % 4)),
      length-replicate {A = ℕ} ((4 - length s.content % 4) % 4) 0,
      contents_few all (All-tail IsSmall s all small),
    )

pub names_few : (all : List Section) → All IsSmall all → length (names_of all) ≤ 16 * length all
names_few [] small = omega arith
names_few (s ∷ all) small =
    let named = (All-head IsSmall s all small).named in
    omega (
      arith,
      named,
      length-append (ended s.name) (names_of all),
      length-append s.name (0 ∷ []),
      names_few all (All-tail IsSmall s all small),
    )

small_writable : (all : List Section) → length all ≤ 1025 → All IsSmall all → AreWritable all
unfolding elf_file padded section_name_table string_table
small_writable all few small =
    let table = section_name_table all in
    let whole = with_names all in
    let own = ap length (names_in_table all) in
    let names = ap length (names_split all [] table) in
    let joined = length-append (names_of all) (ended table.name ++ names_of []) in
    let parts = ap length (contents_split all [] table) in
    let together = length-append (contents all) (padded_content table ++ contents []) in
    let this = length-append (padded_content table) (contents []) in
    let filled = length-append table.content (zeros ((4 - length table.content % 4) % 4)) in
    let fill = length-replicate {A = ℕ} ((4 - length table.content % 4) % 4) 0 in
    record {
      each = All-weaker IsSmall IsWritable (λ s is. is.writable) all small;
      few = omega (arith, few);
      short =
          omega (
            arith,
            few,
            file_length whole,
            length-append all (table ∷ []),
            own,
            names,
            joined,
            parts,
            together,
            this,
            filled,
            fill,
            ap length no_contents,
            contents_few all small,
            names_few all small,
          );
    }

-- the code and the relocations of a function
name_of_code : (i : ℕ) → i < 512 → length (section_name i) ≤ 11
unfolding section_name
name_of_code i below = omega (arith, name_short i (omega arith))

pub code_few : (count : ℕ) (constants : ℕ → ℕ) (i : ℕ) → length (object_code count constants i) ≤ 32
unfolding object_code
code_few count constants i = short_code (calls_next count i) 0xFFFF_FFFC (constants i)

pub code_small : (count : ℕ) (constants : ℕ → ℕ) (i : ℕ) → i < 512 → IsSmall (code_section count constants i)
unfolding code_section section_name object_code
code_small count constants i below =
    record {
      writable =
          record {
            kind_fits = omega arith;
            flags_fit = omega arith;
            link_fits = omega arith;
            info_fits = omega arith;
            alignment_fits = omega arith;
            entry_size_fits = omega arith;
            has_bytes = refl;
            name_ends = name_shown i;
          };
      few = omega (arith, short_code (calls_next count i) 0xFFFF_FFFC (constants i));
      named = omega (arith, name_of_code i below);
    }

pub relocations_small : (count i : ℕ) → count ≤ 512 → i < 512 → IsSmall (relocation_section count i)
unfolding relocation_section section_name
relocations_small count i few below =
    record {
      writable =
          record {
            kind_fits = omega arith;
            flags_fit = omega arith;
            link_fits = omega (arith, few);
            info_fits = omega (arith, below);
            alignment_fits = omega arith;
            entry_size_fits = omega arith;
            has_bytes = refl;
            name_ends = name_shown i;
          };
      few = omega arith;
      named = omega (arith, name_of_code i below);
    }

-- the symbols and their names
pub symbol_length : (name size info section : ℕ) → length (symbol name size info section) ≡ 16
unfolding symbol
symbol_length name size info section = refl

pub section_symbols_length : (is : List ℕ) → length (flat_map section_symbol is) ≡ 16 * length is
section_symbols_length [] = refl
section_symbols_length (i ∷ is) =
    omega (
      arith,
      length-append (section_symbol i) (flat_map section_symbol is),
      symbol_length 0 0 0x03 (i + 1),
      section_symbols_length is,
    )

pub function_symbols_length : (count : ℕ) (constants : ℕ → ℕ) (name : ℕ) (is : List ℕ)
    → length (function_symbols count constants name is) ≡ 16 * length is
unfolding function_symbols
function_symbols_length count constants name [] = refl
function_symbols_length count constants name (i ∷ is) =
    let size = length (object_code count constants i) in
    let next = name + length (function_name i) + 1 in
    omega (
      arith,
      length-append (symbol name size 0x12 (i + 1)) (function_symbols count constants next is),
      symbol_length name size 0x12 (i + 1),
      function_symbols_length count constants next is,
    )

pub symbols_length : (count : ℕ) (constants : ℕ → ℕ) → length (symbols count constants) ≡ 16 + 32 * count
unfolding symbols
symbols_length count constants =
    let is = functions count in
    omega (
      arith,
      length-append (zeros 16 ++ flat_map section_symbol is) (function_symbols count constants 1 is),
      length-append (zeros 16) (flat_map section_symbol is),
      section_symbols_length is,
      function_symbols_length count constants 1 is,
      length-range_with_len 0 count,
    )

function_names_few : (is : List ℕ) → All (λ i. i < 10 ^ 4) is
    → length (flat_map ended (map function_name is)) ≤ 6 * length is
function_names_few [] below = omega arith
function_names_few (i ∷ is) below =
    let P : ℕ → Type 0 = λ i. i < 10 ^ 4 in
    omega (
      arith,
      length-append (ended (function_name i)) (flat_map ended (map function_name is)),
      length-append (function_name i) (0 ∷ []),
      name_short i (All-head P i is below),
      function_names_few is (All-tail P i is below),
    )

pub symbol_names_few : (count : ℕ) → count ≤ 512 → length (symbol_names count) ≤ 3073
unfolding symbol_names name_table
symbol_names_few count few =
    let small = all_functions (λ i. i < 10 ^ 4) count (λ i below. omega (arith, few, below)) in
    omega (arith, few, length-range_with_len 0 count, function_names_few (functions count) small)

pub symbol_table_small : (count : ℕ) (constants : ℕ → ℕ) → count ≤ 512
    → IsSmall (symbol_table count (symbols count constants))
unfolding symbol_table
symbol_table_small count constants few =
    record {
      writable =
          record {
            kind_fits = omega arith;
            flags_fit = omega arith;
            link_fits = omega (arith, few);
            info_fits = omega (arith, few);
            alignment_fits = omega arith;
            entry_size_fits = omega arith;
            has_bytes = refl;
            name_ends = refl;
          };
      few = omega (arith, few, symbols_length count constants);
      named = omega arith;
    }

pub names_small : (count : ℕ) → count ≤ 512 → IsSmall (string_table (codes ".strtab") (symbol_names count))
unfolding string_table
names_small count few =
    record {
      writable =
          record {
            kind_fits = omega arith;
            flags_fit = omega arith;
            link_fits = omega arith;
            info_fits = omega arith;
            alignment_fits = omega arith;
            entry_size_fits = omega arith;
            has_bytes = refl;
            name_ends = refl;
          };
      few = omega (arith, symbol_names_few count few);
      named = omega arith;
    }

-- all sections of an object
pub sections_small : (count : ℕ) (constants : ℕ → ℕ) → count ≤ 512 → All IsSmall (sections count constants)
unfolding sections
sections_small count constants few =
    let code = map (code_section count constants) (functions count) in
    let relocations = map (relocation_section count) (functions (count - 1)) in
    let table = symbol_table count (symbols count constants) in
    let names = string_table (codes ".strtab") (symbol_names count) in
    All-append IsSmall (code ++ relocations) (table ∷ names ∷ [])
    (All-append IsSmall code relocations
    (All-map IsSmall (code_section count constants) (functions count)
    (all_functions (λ i. IsSmall (code_section count constants i)) count
    (λ i below. code_small count constants i (omega (arith, few, below)))))
    (All-map IsSmall (relocation_section count) (functions (count - 1))
    (all_functions (λ i. IsSmall (relocation_section count i)) (count - 1)
    (λ i below. relocations_small count i few (omega (arith, few, below))))))
    (All-cons IsSmall table (names ∷ []) (symbol_table_small count constants few)
    (All-cons IsSmall names [] (names_small count few) (All-nil IsSmall)))

pub sections_length : (count : ℕ) (constants : ℕ → ℕ) → 1 ≤ count → length (sections count constants) ≡ 2 * count + 1
unfolding sections
sections_length count constants some =
    let code = map (code_section count constants) (functions count) in
    let relocations = map (relocation_section count) (functions (count - 1)) in
    let table = symbol_table count (symbols count constants) in
    let names = string_table (codes ".strtab") (symbol_names count) in
    omega (
      arith,
      some,
      length-append (code ++ relocations) (table ∷ names ∷ []),
      length-append code relocations,
      length-map (functions count) (code_section count constants),
      length-range_with_len 0 count,
      length-map (functions (count - 1)) (relocation_section count),
      length-range_with_len 0 (count - 1),
    )

pub some_functions : (number : ℕ) → 1 ≤ function_count number
some_functions number = omega arith

pub writable : (number : ℕ) (constants : ℕ → ℕ) → AreWritable (sections (function_count number) constants)
writable number constants =
    let few = few_functions number in
    small_writable (sections (function_count number) constants)
    (omega (arith, few, sections_length (function_count number) constants (some_functions number)))
    (sections_small (function_count number) constants few)

object_count : (number : ℕ) (constants : ℕ → ℕ)
    → section_count (object_file (function_count number) constants) ≡ 2 * function_count number + 3
unfolding object_file
object_count number constants =
    omega (
      arith,
      count_read (sections (function_count number) constants) (writable number constants),
      sections_length (function_count number) constants (some_functions number),
    )

object_read : (number : ℕ) (constants : ℕ → ℕ) (k : ℕ) (section : Section)
    → slice_get (sections (function_count number) constants) k ≡ Some section
    → IsReadAs (object_file (function_count number) constants) (k + 1) section
unfolding object_file
object_read number constants k section at =
    section_read (sections (function_count number) constants) k section (writable number constants) at

pub pre_count : (number : ℕ) → section_count (work_of number).pre ≡ 2 * function_count number + 3
unfolding work_of old_object
pre_count number = object_count number (old_constant number)

pub post_count : (number : ℕ) → section_count (work_of number).post ≡ 2 * function_count number + 3
unfolding work_of new_object
post_count number = object_count number (new_constant number)

pub pre_read : (number k : ℕ) (section : Section)
    → slice_get (sections (function_count number) (old_constant number)) k ≡ Some section
    → IsReadAs (work_of number).pre (k + 1) section
unfolding work_of old_object
pre_read number k section at = object_read number (old_constant number) k section at

pub post_read : (number k : ℕ) (section : Section)
    → slice_get (sections (function_count number) (new_constant number)) k ≡ Some section
    → IsReadAs (work_of number).post (k + 1) section
unfolding work_of new_object
post_read number k section at = object_read number (new_constant number) k section at
