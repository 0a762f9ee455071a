-- The objects of a work have the relocations of their calls, and their code is loaded.
use Rattle.std.proofs.Common.{◌≡◌, ℕ, zero, suc, ◌+◌, ◌-◌, ◌*◌, ◌/◌, ◌%◌, ◌≤◌, ◌<◌, ◌^◌, ◌==◌, Bool, true, false}
use Rattle.std.proofs.Common.{nat_eq, List, [], ◌∷◌, ◌++◌, length, take, drop, codes, get_or, refl, ap}
use Rattle.std.proofs.Common.{◌∙◌, arith}
use Rattle.std.specs.List.{starts_with, position_or_len}
use Rattle.std.proofs.lemmas.Bool.Decides.{nat_tests}
use Rattle.byteorder.specs.Endian.{little_number}
use Rattle.i386_reloc.specs.Fields.{word_at, section_header, section_count, section_names, section_name, is_section}
use Rattle.i386_reloc.specs.Fields.{is_zero, is_unwind_table, is_loaded, patches_loaded, entry_count, relocation_at}
use Rattle.i386_reloc.specs.Fields.{relocation}
use Rattle.work_gen.specs.Encoding.{word}
use Rattle.work_gen.specs.ElfFile.{elf_file}
use Rattle.work_gen.specs.Functions.{function_count, function_name, calls_next, function_code, object_code}
use Rattle.work_gen.specs.Functions.{old_constant, new_constant}
use Rattle.work_gen.specs.Objects.{code_section, relocation_section, section_name as text_name, sections, object_file}
use Rattle.work_gen.specs.Objects.{old_object, new_object}
use Rattle.work_gen.specs.Work.{work_of}
use Rattle.work_forms.specs.ObjectFiles.{HasRelocations}
use Rattle.work_forms.proofs.RuleLaws.{few_functions}
use Rattle.work_forms.proofs.WrittenLaws.{drop_before}
use Rattle.work_forms.proofs.SectionLaws.{content_read, count_read, section_read}
use Rattle.work_forms.proofs.ObjectLaws.{sections_length, some_functions, writable}
use Rattle.work_forms.proofs.SymbolLaws.{code_at, relocations_at, and_false, word_read}

-- a name whose second byte is that of `.text`
other_name : (n : ℕ) (bytes rest : List ℕ) (a : ℕ) → take n bytes ≡ a ∷ 116 ∷ rest
    → starts_with nat_eq bytes (codes ".eh_frame" ++ 0 ∷ []) ≡ false
other_name zero bytes rest a e = let no : 0 ≡ suc (suc (length rest)) = ap length e in absurd (omega (arith, no))
other_name (suc n) [] rest a e = refl
other_name (suc zero) (x ∷ bytes) rest a e =
    let no : 1 ≡ suc (suc (length rest)) = ap length e in absurd (omega (arith, no))
other_name (suc (suc n)) (x ∷ []) rest a e =
    let no : 1 ≡ suc (suc (length rest)) = ap length e in absurd (omega (arith, no))
other_name (suc (suc n)) (x ∷ y ∷ bytes) rest a e =
    let second : y ≡ 116 = ap (λ xs. get_or xs 1 0) e in
    rw second (and_false (46 == x))

not_unwind : (file : List ℕ) (i : ℕ) (rest : List ℕ) → section_name file i ≡ 46 ∷ 116 ∷ rest
    → is_unwind_table file i ≡ false
unfolding is_unwind_table section_name
not_unwind file i rest e =
    let bytes = drop (section_header file i).name (section_names file) in
    other_name (position_or_len is_zero bytes) bytes rest 46 e

loaded_by : (file : List ℕ) (i : ℕ) → is_section file i ≡ true → (section_header file i).kind ≡ 1
    → (section_header file i).flags ≡ 6 → 0 < (section_header file i).size → is_unwind_table file i ≡ false
    → is_loaded file i ≡ true
unfolding is_loaded
loaded_by file i section kind flags some unwind = rw (section, kind, flags, unwind) (grind (arith, nat_tests))

some_code : (calls : Bool) (displacement constant : ℕ) → 1 ≤ length (function_code calls displacement constant)
unfolding function_code
some_code true displacement constant = omega arith
some_code false displacement constant = omega arith

pub section_there : (file : List ℕ) (i : ℕ) → 0 < i → i < section_count file → is_section file i ≡ true
unfolding is_section
section_there file i above below = grind (arith, nat_tests)

pub code_loaded : (number : ℕ) (constants : ℕ → ℕ) (i : ℕ) → i < function_count number
    → is_loaded (elf_file (sections (function_count number) constants)) (i + 1) ≡ true
unfolding code_section text_name object_code
code_loaded number constants i below =
    let count = function_count number in
    let file = elf_file (sections count constants) in
    let are = writable number constants in
    let total = count_read (sections count constants) are in
    let long = sections_length count constants (some_functions number) in
    let read = section_read (sections count constants) i (code_section count constants i) are
    (code_at count constants i below) in
    let size = (content_read (sections count constants) i (code_section count constants i) are
    (code_at count constants i below)).size in
    let some = some_code (calls_next count i) 0xFFFF_FFFC (constants i) in
    loaded_by file (i + 1) (section_there file (i + 1) (omega arith) (omega (arith, below, total, long))) read.kind
    read.flags (omega (arith, size, some))
    (not_unwind file (i + 1) (codes "ext." ++ function_name i) read.name)

-- the entry of a relocation section
one_entry : (file : List ℕ) (i target : ℕ) → is_section file i ≡ true → (section_header file i).kind ≡ 9
    → (section_header file i).info ≡ target → (section_header file i).size ≡ 8 → is_loaded file target ≡ true
    → entry_count file i ≡ 1
unfolding entry_count patches_loaded
one_entry file i target section kind info size loaded = rw (section, kind, info, loaded, size) refl

pub record IsCall (file : List ℕ) (i function : ℕ) : Type 0 where
  pub number : entry_count file i ≡ 1
  pub offset_is : (relocation file i 0).offset ≡ 6
  pub symbol_is : (relocation file i 0).symbol ≡ function + 2
  pub kind_is : (relocation file i 0).kind ≡ 2

pub call_read : (number : ℕ) (constants : ℕ → ℕ) (i : ℕ) → i < function_count number - 1
    → IsCall (elf_file (sections (function_count number) constants)) (function_count number + i + 1) i
unfolding relocation_section relocation relocation_at word_at
call_read number constants i below =
    let count = function_count number in
    let file = elf_file (sections count constants) in
    let k = count + i + 1 in
    let are = writable number constants in
    let total = count_read (sections count constants) are in
    let long = sections_length count constants (some_functions number) in
    let this = relocation_section count i in
    let at = relocations_at count constants i below in
    let read = section_read (sections count constants) (count + i) this are at in
    let has = content_read (sections count constants) (count + i) this are at in
    let info = 256 * (i + 2) + 2 in
    let small : info < 2 ^ 32 = omega (arith, below, few_functions number) in
    let all = (word 6 ++ word info) ++ has.rest in
    let start : (section_header file k).offset + 8 * 0 ≡ length has.before + 0 = omega (arith, has.offset) in
    let second : (section_header file k).offset + 8 * 0 + 4 ≡ length has.before + 4 = omega (arith, has.offset) in
    let offset : little_number 4 (drop ((section_header file k).offset + 8 * 0) file) ≡ 6 =
    ap (λ n. little_number 4 (drop n file)) start
    ∙ ap (λ bytes. little_number 4 (drop (length has.before + 0) bytes)) has.parts
    ∙ ap (little_number 4) (drop_before has.before all 0)
    ∙ word_read 6 (drop 4 all) (omega arith) in
    let number_there : little_number 4 (drop ((section_header file k).offset + 8 * 0 + 4) file) ≡ info =
    ap (λ n. little_number 4 (drop n file)) second
    ∙ ap (λ bytes. little_number 4 (drop (length has.before + 4) bytes)) has.parts
    ∙ ap (little_number 4) (drop_before has.before all 4)
    ∙ word_read info has.rest small in
    record {
      number = one_entry file k (i + 1)
          (section_there file k (omega arith) (omega (arith, below, total, long))) read.kind read.info has.size
          (code_loaded number constants i (omega (arith, below)));
      offset_is = offset;
      symbol_is = ap (λ n. n / 256) number_there ∙ omega arith;
      kind_is = ap (λ n. n % 256) number_there ∙ omega arith;
    }

all_relocations : (number : ℕ) (constants : ℕ → ℕ)
    → HasRelocations (object_file (function_count number) constants) (function_count number)
unfolding object_file
all_relocations number constants =
    record {
      loaded = code_loaded number constants;
      numbers = λ i below. (call_read number constants i below).number;
      offsets = λ i below. (call_read number constants i below).offset_is;
      symbols = λ i below. (call_read number constants i below).symbol_is;
      kinds = λ i below. (call_read number constants i below).kind_is;
    }

pub pre_relocations : (number : ℕ) → HasRelocations (work_of number).pre (function_count number)
unfolding work_of old_object
pre_relocations number = all_relocations number (old_constant number)

pub post_relocations : (number : ℕ) → HasRelocations (work_of number).post (function_count number)
unfolding work_of new_object
post_relocations number = all_relocations number (new_constant number)
