-- The objects of a work are read as the normal sections of its functions, and none is refused.
use Rattle.std.proofs.Common.{◌≡◌, ℕ, zero, suc, ◌+◌, ◌-◌, ◌*◌, ◌≤◌, ◌<◌, ◌&&◌, ◌==◌, Bool, true, false}
use Rattle.std.proofs.Common.{◌%◌, nat_lt, if◌then◌else◌, List, [], ◌∷◌, ◌++◌, map, filter, length, Option, Some, None}
use Rattle.std.proofs.Common.{Ok, refl, ap, sym, ◌∙◌, inl, inr, arith}
use Rattle.std.specs.Option.{option_map}
use Rattle.std.proofs.lemmas.Bool.{cases_lt, ne_eqb}
use Rattle.std.proofs.lemmas.Bool.Decides.{nat_tests}
use Rattle.std.proofs.lemmas.List.FromFn.{map-range_with_len_more}
use Rattle.i386_reloc.specs.declared.types.Class.{Class}
use Rattle.i386_reloc.specs.declared.types.Class.TheVariants.{Code}
use Rattle.i386_reloc.specs.declared.types.Form.TheVariants.{Relative}
use Rattle.i386_reloc.specs.declared.types.Target.TheVariants.{Section}
use Rattle.i386_reloc.specs.declared.types.Ref.{Ref}
use Rattle.i386_reloc.specs.declared.types.ObjectSymbol.{ObjectSymbol}
use Rattle.i386_reloc.specs.declared.types.NormalSection.{NormalSection}
use Rattle.i386_reloc.specs.Reloc.{Reloc}
use Rattle.i386_reloc.specs.Below.{all_below, any_below, first_below, each_below}
use Rattle.i386_reloc.specs.Fields.{section_header, section_name, section_bytes, is_section, is_loaded}
use Rattle.i386_reloc.specs.Fields.{symbol_count, symbol_entry, symbol_name, word_at, relocation, entry_count, changes}
use Rattle.i386_reloc.specs.Fields.{patches_loaded}
use Rattle.i386_reloc.specs.Rules.{object_fault}
use Rattle.i386_reloc.specs.Classes.{class_of, is_code, is_strings}
use Rattle.i386_reloc.specs.References.{relocations_of, by_offset, fields_of, addend_in, reference_of, references_of}
use Rattle.i386_reloc.specs.References.{changes_at, blanked_from, blanked_bytes, object_symbol, is_object_of}
use Rattle.i386_reloc.specs.References.{objects_of}
use Rattle.i386_reloc.specs.Normal.{is_function_of, starts, function_symbol, has_inner_function, normal_section}
use Rattle.i386_reloc.specs.Normal.{is_global_at, loaded_below, loaded_sections, same_bytes, is_name_twice}
use Rattle.i386_reloc.specs.Normal.{is_not_one_function}
use Rattle.i386_reloc.specs.Refused.{name_fault_at, function_fault_at, kind_fault, target_fault, text_fault}
use Rattle.i386_reloc.specs.Refused.{relocation_fault_of, relocation_fault_at, name_fault, function_fault}
use Rattle.i386_reloc.specs.Refused.{relocation_fault, normal_fault}
use Rattle.i386_reloc.specs.Sections.{sections_of}
use Rattle.work_gen.specs.ElfFile.{elf_file}
use Rattle.work_gen.specs.Functions.{function_count, functions, function_name, calls_next, function_code, object_code}
use Rattle.work_gen.specs.Functions.{old_constant, new_constant}
use Rattle.work_gen.specs.Objects.{section_name as text_name, sections, object_file, old_object, new_object}
use Rattle.work_gen.specs.Work.{work_of}
use Rattle.work_forms.specs.ObjectFiles.{HasSymbol}
use Rattle.work_forms.specs.Sections.{call_of, section_of, work_sections}
use Rattle.work_forms.proofs.SymbolLaws.{and_false, least_is, word_read}
use Rattle.work_forms.proofs.AcceptedLaws.{all_none, below_is}
use Rattle.work_forms.proofs.EntryLaws.{pre_kept, post_kept}
use Rattle.work_forms.proofs.NameLaws.{names_apart}
use Rattle.work_forms.proofs.ReadLaws.{IsObject, by_section, by_place, by_symbol, object_is}

-- numbers below a bound of which none has anything, or one alone
any_none : (test : ℕ → Bool) (n : ℕ) → ((j : ℕ) → j < n → test j ≡ false) → any_below test n ≡ false
any_none test zero fails = refl
any_none test (suc n) fails = rw (any_none test n (λ j below. fails j (omega arith)), fails n (omega arith)) refl

nothing_below : {X : Type 0} (f : ℕ → List X) (n : ℕ) → ((j : ℕ) → j < n → f j ≡ []) → all_below f n ≡ []
nothing_below f zero none = refl
nothing_below f (suc n) none =
    rw (nothing_below f n (λ j below. none j (omega arith)), none n (omega arith)) refl

append_nothing : {X : Type 0} (xs : List X) → xs ++ [] ≡ xs
append_nothing [] = refl
append_nothing (x ∷ xs) = ap (λ ys. x ∷ ys) (append_nothing xs)

one_below : {X : Type 0} (f : ℕ → List X) (n k : ℕ) (xs : List X) → k < n → f k ≡ xs
    → ((j : ℕ) → j < n → (j ≡ k → ⊥) → f j ≡ []) → all_below f n ≡ xs
one_below f zero k xs within here none = absurd (omega arith)
one_below f (suc n) k xs within here none =
    elim (cases_lt k n) [
      | inl below ↦
          let last : f n ≡ [] = none n (omega arith) (λ e. omega (arith, e, below)) in
          rw last (append_nothing (all_below f n)
          ∙ one_below f n k xs below here (λ j under other. none j (omega (arith, under)) other))
      | inr past ↦
          let e : k ≡ n = omega arith in
          let last : f n ≡ xs = ap f (sym e) ∙ here in
          let before : all_below f n ≡ [] =
          nothing_below f n (λ j under. none j (omega (arith, under)) (λ same. omega (arith, same, under, e))) in
          rw (before, last) refl
    ]

-- section 0
first_unloaded : (file : List ℕ) → is_loaded file 0 ≡ false
unfolding is_loaded is_section
first_unloaded file = refl

first_quiet : (file : List ℕ) → patches_loaded file 0 ≡ false
unfolding patches_loaded is_section
first_quiet file = refl

-- no name occurs twice
not_same : (file : List ℕ) (count : ℕ) (constants : ℕ → ℕ) → IsObject file count constants → (m n : ℕ)
    → m < n → n < count → same_bytes (section_name file (suc m)) (section_name file (suc n)) ≡ false
not_same file count constants o m n apart below =
    ap (λ name. same_bytes name (section_name file (suc n))) (o.code m (omega (arith, apart, below))).name
    ∙ ap (λ name. same_bytes (text_name m) name) (o.code n below).name
    ∙ names_apart m n apart

named_before : (file : List ℕ) (count : ℕ) (constants : ℕ → ℕ) → IsObject file count constants → (n : ℕ)
    → n < count → (j : ℕ) → j < suc n
    → (is_loaded file j && same_bytes (section_name file j) (section_name file (suc n))) ≡ false
named_before file count constants o n below zero under =
    ap (λ b. b && same_bytes (section_name file 0) (section_name file (suc n))) (first_unloaded file)
named_before file count constants o n below (suc m) under =
    ap (λ b. is_loaded file (suc m) && b) (not_same file count constants o m n (omega arith) below)
    ∙ and_false (is_loaded file (suc m))

not_twice_unloaded : (file : List ℕ) (j : ℕ) → is_loaded file j ≡ false → is_name_twice file j ≡ false
unfolding is_name_twice
not_twice_unloaded file j unloaded = rw unloaded refl

not_twice_code : (file : List ℕ) (count : ℕ) (constants : ℕ → ℕ) → IsObject file count constants → (n : ℕ)
    → n < count → is_name_twice file (suc n) ≡ false
unfolding is_name_twice
not_twice_code file count constants o n below =
    ap (λ b. is_loaded file (suc n) && b)
    (any_none (λ j. is_loaded file j && same_bytes (section_name file j) (section_name file (suc n))) (suc n)
    (named_before file count constants o n below))
    ∙ and_false (is_loaded file (suc n))

not_twice : (file : List ℕ) (count : ℕ) (constants : ℕ → ℕ) → IsObject file count constants → (j : ℕ)
    → j < 2 * count + 3 → is_name_twice file j ≡ false
not_twice file count constants o =
    by_section (λ j. is_name_twice file j ≡ false) count (not_twice_unloaded file 0 (first_unloaded file))
    (not_twice_code file count constants o)
    (λ j above below. not_twice_unloaded file j (o.unloaded j above below))

names_kept : (file : List ℕ) (count : ℕ) (constants : ℕ → ℕ) → IsObject file count constants → name_fault file ≡ None
unfolding name_fault name_fault_at
names_kept file count constants o =
    ap (first_below (name_fault_at file)) o.total
    ∙ all_none (name_fault_at file) (2 * count + 3) (λ j below. rw (not_twice file count constants o j below) refl)

-- the function of a section
first_starts_none : (file : List ℕ) (i : ℕ) → is_function_of file i 0 ≡ false
unfolding is_function_of
first_starts_none file i = refl

no_function : (file : List ℕ) (i k section : ℕ) → HasSymbol file k 0 0x03 section → is_function_of file i k ≡ false
unfolding is_function_of
no_function file i k section has = rw (has.info_is, and_false (nat_lt 0 k)) refl

other_function : (file : List ℕ) (i k size section : ℕ) → HasSymbol file k size 0x12 section → (section ≡ i → ⊥)
    → is_function_of file i k ≡ false
unfolding is_function_of
other_function file i k size section has other =
    let apart : (section == i) ≡ false = ne_eqb section i other in
    rw (has.info_is, has.section_is, apart, and_false (nat_lt 0 k && true)) refl

is_started : (file : List ℕ) (i k size : ℕ) → HasSymbol file (suc k) size 0x12 i → starts file i (suc k) ≡ true
unfolding starts is_function_of
is_started file i k size has =
    let same : (i == i) ≡ true = grind (arith, nat_tests) in
    rw (has.info_is, has.section_is, has.value, same, below_is 0 (suc k) (omega arith)) refl

not_started : (file : List ℕ) (i k : ℕ) → is_function_of file i k ≡ false → starts file i k ≡ false
unfolding starts
not_started file i k other = rw other refl

started_by : (file : List ℕ) (count : ℕ) (constants : ℕ → ℕ) → IsObject file count constants → (i : ℕ) → i < count
    → (j : ℕ) → j < suc (count + i) → starts file (suc i) j ≡ false
started_by file count constants o i below j under =
    let P : ℕ → Type 0 = λ k. k < suc (count + i) → starts file (suc i) k ≡ false in
    by_symbol P count (λ h. not_started file (suc i) 0 (first_starts_none file (suc i)))
    (λ m within h. not_started file (suc i) (suc m)
    (no_function file (suc i) (suc m) (suc m) (o.functions m within).of_section))
    (λ m within h. not_started file (suc i) (suc (count + m))
    (other_function file (suc i) (suc (count + m)) (length (object_code count constants m)) (suc m)
    (o.functions m within).of_function (λ same. omega (arith, same, h))))
    j (omega (arith, under, below)) under

class_is : (file : List ℕ) (i : ℕ) → (section_header file i).kind ≡ 1 → (section_header file i).flags ≡ 6
    → class_of (section_header file i) ≡ Code
class_is file i kind flags = rw (kind, flags) refl

code_is : (file : List ℕ) (i : ℕ) → is_loaded file i ≡ true → (section_header file i).kind ≡ 1
    → (section_header file i).flags ≡ 6 → is_code file i ≡ true
unfolding is_code
code_is file i loaded kind flags = rw (loaded, kind, flags) refl

no_strings : (file : List ℕ) (i : ℕ) → (section_header file i).kind ≡ 1 → (section_header file i).flags ≡ 6
    → is_strings file i ≡ false
unfolding is_strings
no_strings file i kind flags = rw (kind, flags) (and_false (is_loaded file i))

function_is : (file : List ℕ) (count : ℕ) (constants : ℕ → ℕ) → IsObject file count constants → (i : ℕ) → i < count
    → function_symbol file (suc i) ≡ Some (suc (count + i))
unfolding function_symbol
function_is file count constants o i below =
    let c = o.code i below in
    let size = length (object_code count constants i) in
    rw (code_is file (suc i) c.loaded c.kind c.flags)
    (least_is (starts file (suc i)) (symbol_count file) (suc (count + i)) (omega (arith, o.symbols, below))
    (is_started file (suc i) (count + i) size (o.functions i below).of_function)
    (started_by file count constants o i below))

at_start : (file : List ℕ) (i k size info section : ℕ) → HasSymbol file k size info section
    → (is_function_of file i k && nat_lt 0 (symbol_entry file k).value) ≡ false
at_start file i k size info section has = rw has.value (and_false (is_function_of file i k))

no_inner : (file : List ℕ) (count : ℕ) (constants : ℕ → ℕ) → IsObject file count constants → (i : ℕ)
    → has_inner_function file i ≡ false
unfolding has_inner_function
no_inner file count constants o i =
    let test : ℕ → Bool = λ k. is_function_of file i k && nat_lt 0 (symbol_entry file k).value in
    ap (any_below test) o.symbols
    ∙ any_none test (2 * count + 1)
    (by_symbol (λ k. test k ≡ false) count
    (ap (λ b. b && nat_lt 0 (symbol_entry file 0).value) (first_starts_none file i))
    (λ m within. at_start file i (suc m) 0 0x03 (suc m) (o.functions m within).of_section)
    (λ m within. at_start file i (suc (count + m)) (length (object_code count constants m)) 0x12 (suc m)
    (o.functions m within).of_function))

one_function_by : (file : List ℕ) (i k : ℕ) → function_symbol file i ≡ Some k → has_inner_function file i ≡ false
    → is_not_one_function file i ≡ false
unfolding is_not_one_function
one_function_by file i k function inner = rw (function, inner) (and_false (is_code file i))

unloaded_function : (file : List ℕ) (i : ℕ) → is_loaded file i ≡ false → is_not_one_function file i ≡ false
unfolding is_not_one_function is_code
unloaded_function file i unloaded = rw unloaded refl

one_function : (file : List ℕ) (count : ℕ) (constants : ℕ → ℕ) → IsObject file count constants → (j : ℕ)
    → j < 2 * count + 3 → is_not_one_function file j ≡ false
one_function file count constants o =
    by_section (λ j. is_not_one_function file j ≡ false) count (unloaded_function file 0 (first_unloaded file))
    (λ i below. one_function_by file (suc i) (suc (count + i)) (function_is file count constants o i below)
    (no_inner file count constants o (suc i)))
    (λ j above below. unloaded_function file j (o.unloaded j above below))

functions_kept : (file : List ℕ) (count : ℕ) (constants : ℕ → ℕ) → IsObject file count constants
    → function_fault file ≡ None
unfolding function_fault function_fault_at
functions_kept file count constants o =
    ap (first_below (function_fault_at file)) o.total
    ∙ all_none (function_fault_at file) (2 * count + 3)
    (λ j below. rw (one_function file count constants o j below) refl)

-- the relocations of a section
abbrev entries_of : List ℕ → ℕ → ℕ → List Reloc
entries_of file i j = if changes file i j then each_below (relocation file j) (entry_count file j) else []

no_change : (file : List ℕ) (i j : ℕ) → patches_loaded file j ≡ false → entries_of file i j ≡ []
unfolding changes
no_change file i j quiet = rw quiet refl

other_change : (file : List ℕ) (i j target : ℕ) → (section_header file j).info ≡ target → (target ≡ i → ⊥)
    → entries_of file i j ≡ []
unfolding changes
other_change file i j target info other =
    let apart : (target == i) ≡ false = ne_eqb target i other in
    rw (info, apart, and_false (patches_loaded file j)) refl

one_change : (file : List ℕ) (i j : ℕ) → patches_loaded file j ≡ true → (section_header file j).info ≡ i
    → entry_count file j ≡ 1 → entries_of file i j ≡ relocation file j 0 ∷ []
unfolding changes
one_change file i j patches info number =
    let same : (i == i) ≡ true = grind (arith, nat_tests) in
    rw (patches, info, same, number) refl

calls_relocated : (file : List ℕ) (count : ℕ) (constants : ℕ → ℕ) → IsObject file count constants → (i : ℕ)
    → i < count - 1 → relocations_of file (suc i) ≡ relocation file (suc (count + i)) 0 ∷ []
unfolding relocations_of
calls_relocated file count constants o i below =
    let p = o.calls i below in
    let k = suc (count + i) in
    let P : ℕ → Type 0 = λ j. (j ≡ k → ⊥) → entries_of file (suc i) j ≡ [] in
    ap (all_below (entries_of file (suc i))) o.total
    ∙ one_below (entries_of file (suc i)) (2 * count + 3) k (relocation file k 0 ∷ []) (omega (arith, below))
    (one_change file (suc i) k p.patches p.target p.call.number)
    (by_place P count (λ other. no_change file (suc i) 0 (first_quiet file))
    (λ m within other. no_change file (suc i) (suc m) (o.code m within).patches)
    (λ m within other. other_change file (suc i) (suc (count + m)) (suc m) (o.calls m within).target
    (λ same. other (omega (arith, same))))
    (λ j above within other. no_change file (suc i) j (o.quiet j above within)))

last_relocated : (file : List ℕ) (count : ℕ) (constants : ℕ → ℕ) → IsObject file count constants → (i : ℕ)
    → count ≤ i + 1 → relocations_of file (suc i) ≡ []
unfolding relocations_of
last_relocated file count constants o i last =
    let P : ℕ → Type 0 = λ j. entries_of file (suc i) j ≡ [] in
    ap (all_below (entries_of file (suc i))) o.total
    ∙ nothing_below (entries_of file (suc i)) (2 * count + 3)
    (by_place P count (no_change file (suc i) 0 (first_quiet file))
    (λ m within. no_change file (suc i) (suc m) (o.code m within).patches)
    (λ m within. other_change file (suc i) (suc (count + m)) (suc m) (o.calls m within).target
    (λ same. omega (arith, same, within, last)))
    (λ j above within. no_change file (suc i) j (o.quiet j above within)))

-- a call, and the section that it enters
record IsCallOf (file : List ℕ) (i : ℕ) (r : Reloc) (s t : ℕ) : Type 0 where
  offset_is : r.offset ≡ 6
  kind_is : r.kind ≡ 2
  symbol_is : r.symbol ≡ s
  some_symbol : nat_lt 0 s ≡ true
  section_is : (symbol_entry file s).section ≡ t
  value_is : (symbol_entry file s).value ≡ 0
  not_undefined : (t == 0) ≡ false
  not_absolute : (t == 0xFFF1) ≡ false
  not_common : (t == 0xFFF2) ≡ false
  target_loaded : is_loaded file t ≡ true
  target_no_strings : is_strings file t ≡ false
  code_here : is_code file i ≡ true
  no_strings_here : is_strings file i ≡ false

call_at : (file : List ℕ) (count : ℕ) (constants : ℕ → ℕ) → IsObject file count constants → (i : ℕ) → i < count - 1
    → IsCallOf file (suc i) (relocation file (suc (count + i)) 0) (suc (suc i)) (suc (suc i))
call_at file count constants o i below =
    let call = (o.calls i below).call in
    let here = o.code i (omega (arith, below)) in
    let next = o.code (suc i) (omega (arith, below)) in
    let symbol = (o.functions (suc i) (omega (arith, below))).of_section in
    let few = o.few in
    record {
      offset_is = call.offset_is;
      kind_is = call.kind_is;
      symbol_is = omega (arith, call.symbol_is);
      some_symbol = below_is 0 (suc (suc i)) (omega arith);
      section_is = symbol.section_is;
      value_is = symbol.value;
      not_undefined = ne_eqb (suc (suc i)) 0 (λ e. omega (arith, e));
      not_absolute = ne_eqb (suc (suc i)) 0xFFF1 (λ e. omega (arith, e, below, few));
      not_common = ne_eqb (suc (suc i)) 0xFFF2 (λ e. omega (arith, e, below, few));
      target_loaded = next.loaded;
      target_no_strings = no_strings file (suc (suc i)) next.kind next.flags;
      code_here = code_is file (suc i) here.loaded here.kind here.flags;
      no_strings_here = no_strings file (suc i) here.kind here.flags;
    }

kind_kept : (file : List ℕ) (i : ℕ) (r : Reloc) (s t : ℕ) → IsCallOf file i r s t → kind_fault file i r ≡ None
unfolding kind_fault
kind_kept file i r s t is =
    rw (
      is.kind_is,
      is.no_strings_here,
      is.code_here,
      is.symbol_is,
      is.section_is,
      is.target_no_strings,
      and_false (nat_lt 0 s),
    ) refl

target_kept : (file : List ℕ) (i : ℕ) (r : Reloc) (s t : ℕ) → IsCallOf file i r s t → target_fault file i r ≡ None
unfolding target_fault
target_kept file i r s t is =
    rw (
      is.symbol_is,
      is.some_symbol,
      is.section_is,
      is.not_undefined,
      is.not_common,
      is.not_absolute,
      is.target_loaded,
    ) refl

text_kept : (file : List ℕ) (i : ℕ) (r : Reloc) (s t : ℕ) → IsCallOf file i r s t → text_fault file i r ≡ None
unfolding text_fault
text_kept file i r s t is = rw (is.symbol_is, is.section_is, is.target_no_strings) refl

call_kept : (file : List ℕ) (i : ℕ) (r : Reloc) (s t : ℕ) → IsCallOf file i r s t
    → relocation_fault_of file i r ≡ None
unfolding relocation_fault_of
call_kept file i r s t is =
    rw (kind_kept file i r s t is, target_kept file i r s t is, text_kept file i r s t is, is.kind_is) refl

relocation_unloaded : (file : List ℕ) (i : ℕ) → is_loaded file i ≡ false → relocation_fault_at file i ≡ None
unfolding relocation_fault_at
relocation_unloaded file i unloaded = rw unloaded refl

relocation_code : (file : List ℕ) (count : ℕ) (constants : ℕ → ℕ) → IsObject file count constants → (i : ℕ)
    → i < count → relocation_fault_at file (suc i) ≡ None
unfolding relocation_fault_at
relocation_code file count constants o i below =
    let loaded = (o.code i below).loaded in
    elim (cases_lt i (count - 1)) [
      | inl calls ↦
          let r = relocation file (suc (count + i)) 0 in
          rw (
            loaded,
            calls_relocated file count constants o i calls,
            call_kept file (suc i) r (suc (suc i)) (suc (suc i)) (call_at file count constants o i calls),
          ) refl
      | inr last ↦ rw (loaded, last_relocated file count constants o i (omega (arith, last))) refl
    ]

relocations_kept : (file : List ℕ) (count : ℕ) (constants : ℕ → ℕ) → IsObject file count constants
    → relocation_fault file ≡ None
unfolding relocation_fault
relocations_kept file count constants o =
    ap (first_below (relocation_fault_at file)) o.total
    ∙ all_none (relocation_fault_at file) (2 * count + 3)
    (by_section (λ j. relocation_fault_at file j ≡ None) count (relocation_unloaded file 0 (first_unloaded file))
    (relocation_code file count constants o)
    (λ j above below. relocation_unloaded file j (o.unloaded j above below)))

normal_kept : (file : List ℕ) (count : ℕ) (constants : ℕ → ℕ) → IsObject file count constants
    → normal_fault file ≡ None
unfolding normal_fault
normal_kept file count constants o =
    rw (
      names_kept file count constants o,
      functions_kept file count constants o,
      relocations_kept file count constants o,
    ) refl

-- the parts of a section
no_objects : (file : List ℕ) (i k : ℕ) (size info section : ℕ) → HasSymbol file k size info section
    → (info % 16 == 1) ≡ false → is_object_of file i k ≡ false
no_objects file i k size info section has other = rw (has.info_is, other, and_false (nat_lt 0 k)) refl

objects_none : (file : List ℕ) (count : ℕ) (constants : ℕ → ℕ) → IsObject file count constants → (i : ℕ)
    → objects_of file i ≡ []
unfolding objects_of
objects_none file count constants o i =
    let f : ℕ → List ObjectSymbol = λ k. if is_object_of file i k then object_symbol file k ∷ [] else [] in
    let P : ℕ → Type 0 = λ k. f k ≡ [] in
    ap (all_below f) o.symbols
    ∙ nothing_below f (2 * count + 1)
    (by_symbol P count refl
    (λ m within. rw (no_objects file i (suc m) 0 0x03 (suc m) (o.functions m within).of_section refl) refl)
    (λ m within. rw (no_objects file i (suc (count + m)) (length (object_code count constants m)) 0x12 (suc m)
    (o.functions m within).of_function refl) refl))

one_field : (r : Reloc) → r.offset ≡ 6 → r.kind ≡ 2 → by_offset (r ∷ []) 11 ≡ r ∷ []
unfolding by_offset
one_field r offset kind = rw (offset, kind) refl

no_fields : (n : ℕ) → by_offset [] n ≡ []
unfolding by_offset
no_fields n = nothing_below (λ offset. filter (changes_at offset) []) n (λ j below. refl)

blanked : (r : Reloc) (displacement constant : ℕ) → r.offset ≡ 6
    → blanked_from 0 (r ∷ []) (function_code true displacement constant) ≡ function_code true 0 constant
unfolding function_code
blanked r displacement constant offset = rw offset refl

not_blanked : (place : ℕ) (bytes : List ℕ) → blanked_from place [] bytes ≡ bytes
not_blanked place [] = refl
not_blanked place (byte ∷ bytes) = ap (λ rest. byte ∷ rest) (not_blanked (suc place) bytes)

same_code : (displacement constant : ℕ) → function_code false displacement constant ≡ function_code false 0 constant
unfolding function_code
same_code displacement constant = refl

same_length : (calls : Bool) (displacement constant : ℕ)
    → length (function_code calls displacement constant) ≡ length (function_code calls 0 constant)
unfolding function_code
same_length true displacement constant = refl
same_length false displacement constant = refl

code_length : (displacement constant : ℕ) → length (function_code true displacement constant) ≡ 11
unfolding function_code
code_length displacement constant = refl

addend_is : (file : List ℕ) (i : ℕ) (r : Reloc) (constant : ℕ) → r.offset ≡ 6
    → section_bytes file i ≡ function_code true 0xFFFF_FFFC constant → addend_in file i r ≡ 0xFFFF_FFFC
unfolding addend_in word_at function_code
addend_is file i r constant offset content =
    rw (content, offset) (word_read 0xFFFF_FFFC (0xC3 ∷ []) (omega arith))

reference_is : (file : List ℕ) (i : ℕ) (r : Reloc) (s t : ℕ) (name : List ℕ) → IsCallOf file i r s t
    → section_name file t ≡ name → addend_in file i r ≡ 0xFFFF_FFFC
    → reference_of file i r ≡ record { offset = 6; form = Relative; target = Section name; addend = 0xFFFF_FFFC }
unfolding reference_of
reference_is file i r s t name is named addend =
    rw (
      addend,
      is.symbol_is,
      is.section_is,
      is.not_undefined,
      is.not_common,
      is.target_no_strings,
      is.offset_is,
      is.kind_is,
      named,
      is.value_is,
    ) refl

-- what of a section of a function depends on whether it calls the next one
record HasCalls (file : List ℕ) (count : ℕ) (constants : ℕ → ℕ) (i : ℕ) : Type 0 where
  bytes_are : blanked_bytes file (suc i) ≡ function_code (calls_next count i) 0 (constants i)
  refs_are : references_of file (suc i) ≡ (section_of count constants i).refs

calling : (file : List ℕ) (count : ℕ) (constants : ℕ → ℕ) → IsObject file count constants → (i : ℕ)
    → i < count - 1 → HasCalls file count constants i
unfolding blanked_bytes references_of fields_of object_code
calling file count constants o i below =
    let c = o.code i (omega (arith, below)) in
    let calls : calls_next count i ≡ true = grind (arith, nat_tests) in
    let r = relocation file (suc (count + i)) 0 in
    let is = call_at file count constants o i below in
    let next : i + 1 ≡ suc i = omega arith in
    let content : section_bytes file (suc i) ≡ function_code true 0xFFFF_FFFC (constants i) =
    c.content ∙ ap (λ b. function_code b 0xFFFF_FFFC (constants i)) calls in
    let size : (section_header file (suc i)).size ≡ 11 =
    c.size ∙ ap (λ b. length (function_code b 0xFFFF_FFFC (constants i))) calls
    ∙ code_length 0xFFFF_FFFC (constants i) in
    let fields : fields_of file (suc i) ≡ r ∷ [] =
    ap (λ rs. by_offset rs (section_header file (suc i)).size) (calls_relocated file count constants o i below)
    ∙ ap (by_offset (r ∷ [])) size
    ∙ one_field r is.offset_is is.kind_is in
    let named = (o.code (suc i) (omega (arith, below))).name ∙ ap text_name (sym next) in
    let one : reference_of file (suc i) r ≡ call_of i =
    reference_is file (suc i) r (suc (suc i)) (suc (suc i)) (text_name (i + 1)) is named
    (addend_is file (suc i) r (constants i) is.offset_is content) in
    record {
      bytes_are =
          ap (λ fs. blanked_from 0 fs (section_bytes file (suc i))) fields
          ∙ ap (blanked_from 0 (r ∷ [])) content
          ∙ blanked r 0xFFFF_FFFC (constants i) is.offset_is
          ∙ ap (λ b. function_code b 0 (constants i)) (sym calls);
      refs_are =
          ap (map (reference_of file (suc i))) fields
          ∙ ap (λ reference. reference ∷ []) one
          ∙ ap (λ b. if b then call_of i ∷ [] else []) (sym calls);
    }

not_calling : (file : List ℕ) (count : ℕ) (constants : ℕ → ℕ) → IsObject file count constants → (i : ℕ)
    → i < count → count ≤ i + 1 → HasCalls file count constants i
unfolding blanked_bytes references_of fields_of object_code
not_calling file count constants o i below last =
    let c = o.code i below in
    let calls : calls_next count i ≡ false = grind (arith, nat_tests) in
    let content : section_bytes file (suc i) ≡ function_code false 0xFFFF_FFFC (constants i) =
    c.content ∙ ap (λ b. function_code b 0xFFFF_FFFC (constants i)) calls in
    let fields : fields_of file (suc i) ≡ [] =
    ap (λ rs. by_offset rs (section_header file (suc i)).size) (last_relocated file count constants o i last)
    ∙ no_fields (section_header file (suc i)).size in
    record {
      bytes_are =
          ap (λ fs. blanked_from 0 fs (section_bytes file (suc i))) fields
          ∙ not_blanked 0 (section_bytes file (suc i))
          ∙ content
          ∙ same_code 0xFFFF_FFFC (constants i)
          ∙ ap (λ b. function_code b 0 (constants i)) (sym calls);
      refs_are =
          ap (map (reference_of file (suc i))) fields
          ∙ ap (λ b. if b then call_of i ∷ [] else []) (sym calls);
    }

has_calls : (file : List ℕ) (count : ℕ) (constants : ℕ → ℕ) → IsObject file count constants → (i : ℕ)
    → i < count → HasCalls file count constants i
has_calls file count constants o i below =
    elim (cases_lt i (count - 1)) [
      | inl calls ↦ calling file count constants o i calls
      | inr last ↦ not_calling file count constants o i below (omega (arith, last))
    ]

-- the section as it is compared
abbrev made : List ℕ → Class → Option (List ℕ) → Bool → ℕ → ℕ → List ℕ → List Ref → List ObjectSymbol → NormalSection
made name class function global align size bytes refs objects =
    record {
      name = name;
      class = class;
      function = function;
      global = global;
      align = align;
      size = size;
      bytes = bytes;
      refs = refs;
      objects = objects;
    }

same_made : (name name' : List ℕ) (class class' : Class) (function function' : Option (List ℕ))
    (global global' : Bool) (align align' size size' : ℕ) (bytes bytes' : List ℕ) (refs refs' : List Ref)
    (objects objects' : List ObjectSymbol) → name ≡ name' → class ≡ class' → function ≡ function' → global ≡ global'
    → align ≡ align' → size ≡ size' → bytes ≡ bytes' → refs ≡ refs' → objects ≡ objects'
    → made name class function global align size bytes refs objects
    ≡ made name' class' function' global' align' size' bytes' refs' objects'
same_made name name' class class' function function' global global' align align' size size' bytes bytes' refs refs'
    objects objects' a b c d e f g h i =
    rw (a, b, c, d, e, f, g, h, i) refl

global_is : (file : List ℕ) (i k size section : ℕ) → function_symbol file i ≡ Some k
    → HasSymbol file k size 0x12 section → is_global_at file (function_symbol file i) ≡ true
global_is file i k size section function has = rw (function, has.info_is) refl

normal_is : (file : List ℕ) (count : ℕ) (constants : ℕ → ℕ) → IsObject file count constants → (i : ℕ)
    → i < count → normal_section file (suc i) ≡ section_of count constants i
unfolding normal_section object_code
normal_is file count constants o i below =
    let c = o.code i below in
    let f = o.functions i below in
    let has = has_calls file count constants o i below in
    let function = function_is file count constants o i below in
    let code = function_code (calls_next count i) 0 (constants i) in
    same_made (section_name file (suc i)) (text_name i) (class_of (section_header file (suc i))) Code
    (option_map (symbol_name file) (function_symbol file (suc i))) (Some (function_name i))
    (is_global_at file (function_symbol file (suc i))) true
    (section_header file (suc i)).align 16 (section_header file (suc i)).size (length code)
    (blanked_bytes file (suc i)) code (references_of file (suc i)) (section_of count constants i).refs
    (objects_of file (suc i)) []
    c.name
    (class_is file (suc i) c.kind c.flags)
    (ap (option_map (symbol_name file)) function ∙ ap Some f.name)
    (global_is file (suc i) (suc (count + i)) (length (object_code count constants i)) (suc i) function f.of_function)
    c.alignment
    (c.size ∙ same_length (calls_next count i) 0xFFFF_FFFC (constants i))
    has.bytes_are has.refs_are (objects_none file count constants o (suc i))

-- all loaded sections
loaded_code : (file : List ℕ) (count : ℕ) (constants : ℕ → ℕ) → IsObject file count constants → (n : ℕ)
    → n ≤ count → loaded_below file (suc n) ≡ map (section_of count constants) (functions n)
loaded_code file count constants o zero below = rw (first_unloaded file) refl
loaded_code file count constants o (suc n) below =
    let next : n + 1 ≡ suc n = omega arith in
    let before = loaded_code file count constants o n (omega arith) in
    let here = normal_is file count constants o n (omega arith) in
    rw ((o.code n (omega arith)).loaded)
    (ap (λ xs. xs ++ normal_section file (suc n) ∷ []) before
    ∙ ap (λ x. map (section_of count constants) (functions n) ++ x ∷ []) here
    ∙ sym (map-range_with_len_more (section_of count constants) 0 n n (omega arith))
    ∙ ap (λ k. map (section_of count constants) (functions k)) next)

loaded_rest : (file : List ℕ) (count : ℕ) (constants : ℕ → ℕ) → IsObject file count constants → (n : ℕ)
    → count < n → n ≤ 2 * count + 3 → loaded_below file n ≡ loaded_below file (suc count)
loaded_rest file count constants o zero above below = absurd (omega arith)
loaded_rest file count constants o (suc n) above below =
    elim (cases_lt count n) [
      | inl more ↦ rw (o.unloaded n more (omega arith)) (loaded_rest file count constants o n more (omega arith))
      | inr last ↦ let e : n ≡ count = omega (arith, above, last) in ap (λ k. loaded_below file (suc k)) e
    ]

all_loaded : (file : List ℕ) (count : ℕ) (constants : ℕ → ℕ) → IsObject file count constants
    → loaded_sections file ≡ work_sections count constants
unfolding loaded_sections work_sections
all_loaded file count constants o =
    ap (loaded_below file) o.total
    ∙ loaded_rest file count constants o (2 * count + 3) (omega arith) (omega arith)
    ∙ loaded_code file count constants o count (omega arith)

read_as : (file : List ℕ) (count : ℕ) (constants : ℕ → ℕ) → IsObject file count constants → object_fault file ≡ None
    → sections_of file ≡ Ok (work_sections count constants)
unfolding sections_of
read_as file count constants o kept =
    rw (kept, normal_kept file count constants o, all_loaded file count constants o) refl

normal_object : (number : ℕ) (constants : ℕ → ℕ)
    → object_fault (object_file (function_count number) constants) ≡ None
    → sections_of (object_file (function_count number) constants)
    ≡ Ok (work_sections (function_count number) constants)
unfolding object_file
normal_object number constants kept =
    let count = function_count number in
    read_as (elf_file (sections count constants)) count constants (object_is number constants) kept

pub pre_normal : (number : ℕ)
    → sections_of (work_of number).pre ≡ Ok (work_sections (function_count number) (old_constant number))
unfolding work_of old_object
pre_normal number = normal_object number (old_constant number) (pre_kept number)

pub post_normal : (number : ℕ)
    → sections_of (work_of number).post ≡ Ok (work_sections (function_count number) (new_constant number))
unfolding work_of new_object
post_normal number = normal_object number (new_constant number) (post_kept number)
