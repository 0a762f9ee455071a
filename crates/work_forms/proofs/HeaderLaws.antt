-- The ELF header of an object of a work breaks no rule.
use Rattle.std.proofs.Common.{◌≡◌, ℕ, ◌+◌, ◌-◌, ◌*◌, ◌%◌, ◌≤◌, ◌==◌, true, nat_eq, nat_le, nat_lt, List, []}
use Rattle.std.proofs.Common.{◌∷◌, ◌++◌, length, map, codes, None, refl, ap, ◌∙◌, arith, length-append}
use Rattle.std.specs.List.{starts_with}
use Rattle.std.proofs.lemmas.Grind.{flat_map-append}
use Rattle.std.proofs.lemmas.List.{length-replicate}
use Rattle.std.proofs.lemmas.List.FromFn.{length-range_with_len}
use Rattle.i386_reloc.specs.Fields.{half_at, word_at, section_table, section_count, name_table, section_header}
use Rattle.i386_reloc.specs.Fields.{is_string_table}
use Rattle.i386_reloc.specs.Rules.{is_relocatable_386, kind_fault, header_fault}
use Rattle.work_gen.specs.declared.types.Section.{Section}
use Rattle.work_gen.specs.Encoding.{padded, zeros}
use Rattle.work_gen.specs.ElfFile.{padded_content, contents, string_table, section_name_table, file_header, file_of}
use Rattle.work_gen.specs.ElfFile.{elf_file}
use Rattle.work_gen.specs.Functions.{function_count, functions, old_constant, new_constant}
use Rattle.work_gen.specs.Objects.{code_section, relocation_section, symbols, symbol_names, sections}
use Rattle.work_gen.specs.Objects.{symbol_table as symbol_section, object_file, old_object, new_object}
use Rattle.work_gen.specs.Work.{work_of}
use Rattle.work_forms.proofs.RuleLaws.{few_functions}
use Rattle.work_forms.proofs.SectionLaws.{with_names, names_of, file_length, names_split, names_in_table}
use Rattle.work_forms.proofs.SectionLaws.{are_short, rest_of, file_parts, table_there, names_there}
use Rattle.work_forms.proofs.ObjectLaws.{writable, code_few, symbols_length, symbol_names_few, sections_length}
use Rattle.work_forms.proofs.ObjectLaws.{some_functions, no_contents, names_few, sections_small}
use Rattle.work_forms.proofs.PlacedLaws.{lies}
use Rattle.work_forms.proofs.AcceptedLaws.{within, below_is, section_number, last_placed}

-- how long the file is
tiny_code : (count : ℕ) (constants : ℕ → ℕ) (is : List ℕ)
    → length (contents (map (code_section count constants) is)) ≤ 35 * length is
unfolding contents padded code_section
tiny_code count constants [] = omega arith
tiny_code count constants (i ∷ is) =
    let s = code_section count constants i in
    omega (
      arith,
      length-append (padded_content s) (contents (map (code_section count constants) is)),
      length-append s.content (zeros ((4 - length s.content % 4) % 4)),
      length-replicate {A = ℕ} ((4 - length s.content % 4) % 4) 0,
      code_few count constants i,
      tiny_code count constants is,
    )

tiny_relocations : (count : ℕ) (is : List ℕ)
    → length (contents (map (relocation_section count) is)) ≤ 35 * length is
unfolding contents padded relocation_section
tiny_relocations count [] = omega arith
tiny_relocations count (i ∷ is) =
    let s = relocation_section count i in
    omega (
      arith,
      length-append (padded_content s) (contents (map (relocation_section count) is)),
      tiny_relocations count is,
    )

contents_joined : (xs ys : List Section) → contents (xs ++ ys) ≡ contents xs ++ contents ys
unfolding contents
contents_joined xs ys = flat_map-append padded_content xs ys

contents_more : (s : Section) (xs : List Section)
    → length (contents (s ∷ xs)) ≤ length s.content + 3 + length (contents xs)
unfolding contents padded
contents_more s xs =
    omega (
      arith,
      length-append (padded_content s) (contents xs),
      length-append s.content (zeros ((4 - length s.content % 4) % 4)),
      length-replicate {A = ℕ} ((4 - length s.content % 4) % 4) 0,
    )

sections_short : (count : ℕ) (constants : ℕ → ℕ) → count ≤ 512 → length (contents (sections count constants)) ≤ 100000
unfolding sections symbol_section string_table
sections_short count constants few =
    let code = map (code_section count constants) (functions count) in
    let relocations = map (relocation_section count) (functions (count - 1)) in
    let table = symbol_section count (symbols count constants) in
    let names = string_table (codes ".strtab") (symbol_names count) in
    omega (
      arith,
      few,
      ap length (contents_joined (code ++ relocations) (table ∷ names ∷ [])),
      length-append (contents (code ++ relocations)) (contents (table ∷ names ∷ [])),
      ap length (contents_joined code relocations),
      length-append (contents code) (contents relocations),
      tiny_code count constants (functions count),
      tiny_relocations count (functions (count - 1)),
      length-range_with_len 0 count,
      length-range_with_len 0 (count - 1),
      contents_more table (names ∷ []),
      contents_more names [],
      ap length no_contents,
      symbols_length count constants,
      symbol_names_few count few,
    )

file_short : (number : ℕ) (constants : ℕ → ℕ)
    → length (elf_file (sections (function_count number) constants)) ≤ 8388608
unfolding elf_file section_name_table string_table
file_short number constants =
    let count = function_count number in
    let few = few_functions number in
    let given = sections count constants in
    let table = section_name_table given in
    let all = with_names given in
    omega (
      arith,
      few,
      file_length all,
      length-append given (table ∷ []),
      sections_length count constants (some_functions number),
      ap length (contents_joined given (table ∷ [])),
      length-append (contents given) (contents (table ∷ [])),
      contents_more table [],
      ap length no_contents,
      sections_short count constants few,
      ap length (names_in_table given),
      ap length (names_split given [] table),
      length-append (names_of given) (names_of (table ∷ [])),
      names_few given (sections_small count constants few),
    )

-- the fields of the header
magic_there : (place last : ℕ) (rest : List ℕ)
    → starts_with nat_eq (file_header place last ++ rest) (0x7f ∷ 0x45 ∷ 0x4c ∷ 0x46 ∷ []) ≡ true
unfolding file_header
magic_there place last rest = refl

kind_there : (place last : ℕ) (rest : List ℕ) → is_relocatable_386 (file_header place last ++ rest) ≡ true
unfolding file_header is_relocatable_386 half_at
kind_there place last rest = refl

version_there : (place last : ℕ) (rest : List ℕ) → (word_at (file_header place last ++ rest) 20 == 1) ≡ true
unfolding file_header word_at
version_there place last rest = refl

size_there : (place last : ℕ) (rest : List ℕ) → (half_at (file_header place last ++ rest) 40 == 52) ≡ true
unfolding file_header half_at
size_there place last rest = refl

entry_there : (place last : ℕ) (rest : List ℕ) → (half_at (file_header place last ++ rest) 46 == 40) ≡ true
unfolding file_header half_at
entry_there place last rest = refl

texts_there : (number : ℕ) (constants : ℕ → ℕ)
    → is_string_table (file_of (with_names (sections (function_count number) constants)))
    (section_header (file_of (with_names (sections (function_count number) constants)))
    (2 * function_count number + 2)) ≡ true
unfolding elf_file section_name_table string_table
texts_there number constants =
    let given = sections (function_count number) constants in
    let is = last_placed number constants in
    rw (is.kind, lies (elf_file given) (2 * function_count number + 2) (section_name_table given).content is.content)
    refl

pub kind_kept : (number : ℕ) (constants : ℕ → ℕ)
    → kind_fault (elf_file (sections (function_count number) constants)) ≡ None
unfolding elf_file kind_fault
kind_kept number constants =
    let all = with_names (sections (function_count number) constants) in
    let place = 52 + length (contents all) in
    let parts = file_parts all in
    let short : nat_le (length (file_of all)) 8388608 ≡ true =
    within (length (file_of all)) 8388608 (file_short number constants) in
    let long : nat_le 52 (length (file_of all)) ≡ true =
    within 52 (length (file_of all)) (omega (arith, file_length all)) in
    let magic : starts_with nat_eq (file_of all) (0x7f ∷ 0x45 ∷ 0x4c ∷ 0x46 ∷ []) ≡ true =
    ap (λ bytes. starts_with nat_eq bytes (0x7f ∷ 0x45 ∷ 0x4c ∷ 0x46 ∷ [])) parts
    ∙ magic_there place (length all) (rest_of all) in
    let kind : is_relocatable_386 (file_of all) ≡ true =
    ap is_relocatable_386 parts ∙ kind_there place (length all) (rest_of all) in
    rw (short, magic, long, kind) refl

pub header_kept : (number : ℕ) (constants : ℕ → ℕ)
    → header_fault (elf_file (sections (function_count number) constants)) ≡ None
unfolding elf_file header_fault
header_kept number constants =
    let count = function_count number in
    let given = sections count constants in
    let all = with_names given in
    let file = file_of all in
    let short = are_short given (writable number constants) in
    let place = 52 + length (contents all) in
    let parts = file_parts all in
    let total : section_count file ≡ 2 * count + 3 = section_number number constants in
    let whole : length all ≡ 2 * count + 2 =
    omega (
      arith,
      length-append given (section_name_table given ∷ []),
      sections_length count constants (some_functions number),
    ) in
    let few = few_functions number in
    let version : (word_at file 20 == 1) ≡ true =
    ap (λ bytes. word_at bytes 20 == 1) parts ∙ version_there place (length all) (rest_of all) in
    let size : (half_at file 40 == 52) ≡ true =
    ap (λ bytes. half_at bytes 40 == 52) parts ∙ size_there place (length all) (rest_of all) in
    let entry : (half_at file 46 == 40) ≡ true =
    ap (λ bytes. half_at bytes 46 == 40) parts ∙ entry_there place (length all) (rest_of all) in
    let some : nat_lt 0 (section_count file) ≡ true =
    within 1 (section_count file) (omega (arith, total)) in
    let limit : nat_le (section_count file) 4096 ≡ true =
    within (section_count file) 4096 (omega (arith, total, few)) in
    let table : nat_le (section_table file + 40 * section_count file) (length file) ≡ true =
    within (section_table file + 40 * section_count file) (length file)
    (omega (arith, table_there all short, total, whole, file_length all)) in
    let index : name_table file ≡ 2 * count + 2 = names_there all short ∙ whole in
    let below : nat_lt (2 * count + 2) (section_count file) ≡ true =
    below_is (2 * count + 2) (section_count file) (omega (arith, total)) in
    rw (version, size, entry, some, limit, table, index, below, texts_there number constants) refl

-- so are the two objects of a work
pub pre_short : (number : ℕ) → length (work_of number).pre ≤ 8388608
unfolding work_of old_object object_file
pre_short number = file_short number (old_constant number)

pub post_short : (number : ℕ) → length (work_of number).post ≤ 8388608
unfolding work_of new_object object_file
post_short number = file_short number (new_constant number)
