-- What is wrong with a relocation, rule by rule, and what holds where nothing is.
use Rattle.std.proofs.Common.{◌≡◌, ◌≢◌, ℕ, zero, suc, ◌+◌, ◌<◌, ◌==◌, nat_lt, Bool, true, false}
use Rattle.std.proofs.Common.{not, ◌&&◌, ◌||◌, cond, List, [], ◌∷◌, length, get_or, take, Option}
use Rattle.std.proofs.Common.{Some, None, refl, sym, ap, ◌∙◌, arith, add-one, All, inl, inr, subst}
use Rattle.std.specs.List.{filter}
use Rattle.std.specs.List.Sorted.{IsNonDecreasingBy, IsPermutation}
use Rattle.std.proofs.lemmas.Bool.{cases_lt, ltb-true}
use Rattle.std.proofs.lemmas.Bool.Decides.{nat_tests}
use Rattle.std.proofs.lemmas.List.Elements.{All-nil, All-cons, All-filter, All-weaker, filter_passes}
use Rattle.std.proofs.lemmas.List.Sorted.{All-permutation}
use Rattle.elf32_object.specs.Numbers.{SHN_UNDEF, SHN_ABS, SHN_COMMON, R_386_NONE}
use Rattle.elf32_object.specs.declared.types.Reloc.{Reloc}
use Rattle.elf32_object.specs.declared.types.Section.{Section}
use Rattle.elf32_object.specs.Below.{first_of}
use Rattle.elf32_object.specs.Fields.{section_header, section_name, section_bytes, symbol_name, is_loaded, ends_in}
use Rattle.elf32_object.specs.Rule.{◌orElse◌, first_broken}
use Rattle.elf32_object.specs.Rules.{has_field}
use Rattle.elf32_object.specs.laws.BelowLaws.{none_first, none_second}
use Rattle.ks_base.specs.declared.refusals.Refusal.{Refusal}
use Rattle.ks_base.specs.declared.refusals.Refusal.TheVariants as refusal
use Rattle.i386_reloc.specs.declared.types.Class.{Class}
use Rattle.i386_reloc.specs.Classes.{class_by, is_code, is_code_class, is_strings, is_strings_class}
use Rattle.i386_reloc.specs.References.{is_absolute, symbol_of, is_outside, text_offset, addend_in}
use Rattle.i386_reloc.specs.References.{by_offset, relocations_of, fields_of, AreByOffset, HasOrder}
use Rattle.i386_reloc.specs.Refused.{unknown_at, bad_target_at, names_strings, names_end, kind_fault}
use Rattle.i386_reloc.specs.Refused.{target_fault, text_fault, relocation_fault_of, first_among}
use Rattle.i386_reloc.specs.inside.Fields.{IsPlaced, IsRight, IsField, has_target}
use Rattle.i386_reloc.specs.inside.Loaded.{IsLoadedSection}
use Rattle.i386_reloc.proofs.Faults.{class_of_read}

-- rules with one fault
four_rules : (a b c d : Bool) (why : Refusal) → first_broken
    ((a orElse why) ∷ (b orElse why) ∷ (c orElse why) ∷ (d orElse why) ∷ []) ≡ cond (a && b && c && d) None (Some why)
four_rules false b c d why = refl
four_rules true false c d why = refl
four_rules true true false d why = refl
four_rules true true true false why = refl
four_rules true true true true why = refl

-- the type, and where it stands
strings_read : (bytes : List ℕ) (i : ℕ) (section : Section) (class : Class) → IsLoadedSection bytes i section
    → class ≡ class_by section.kind section.flags section.entry → is_strings bytes i ≡ is_strings_class class
unfolding is_strings
strings_read bytes i section class read class_is = rw (read.loaded, class_of_read bytes i section read, class_is) refl

code_read : (bytes : List ℕ) (i : ℕ) (section : Section) (class : Class) → IsLoadedSection bytes i section
    → class ≡ class_by section.kind section.flags section.entry → is_code bytes i ≡ is_code_class class
unfolding is_code
code_read bytes i section class read class_is = rw (read.loaded, class_of_read bytes i section read, class_is) refl

pub kind_read : (bytes : List ℕ) (i : ℕ) (section : Section) (class : Class) (r : Reloc) (strings known : Bool)
    → IsLoadedSection bytes i section → class ≡ class_by section.kind section.flags section.entry
    → strings ≡ names_strings bytes r →
    known ≡ (has_field r && not (is_strings_class class) && (is_absolute r || is_code_class class)
    && (is_absolute r || not strings)) →
    kind_fault bytes i r ≡ cond known None (Some (unknown_at bytes i r))
unfolding kind_fault
kind_read bytes i section class r strings known read class_is strings_are known_is =
    rw (
      known_is,
      strings_are,
      sym (strings_read bytes i section class read class_is),
      sym
          (code_read bytes i section class read class_is),
    )
    (four_rules (has_field r) (not (is_strings bytes i)) (is_absolute r || is_code bytes i)
    (is_absolute r || not (names_strings bytes r)) (unknown_at bytes i r))

-- the target
not_absolute : (section : ℕ) → (section == SHN_UNDEF || section == SHN_COMMON) ≡ true → not (section == SHN_ABS) ≡ true
not_absolute section outside = grind (arith, nat_tests)

target_tests : (above outside named absolute loaded : Bool) → (outside ≡ true → absolute ≡ true)
    → (above && (not outside || named) && absolute && (outside || loaded))
    ≡ (above && cond outside named (absolute && loaded))
target_tests false outside named absolute loaded apart = refl
target_tests true true false absolute loaded apart = refl
target_tests true true true absolute loaded apart = rw (apart refl) refl
target_tests true false named absolute loaded apart = refl

pub target_read : (bytes : List ℕ) (i : ℕ) (r : Reloc) (has : Bool) → has ≡ has_target bytes r
    → target_fault bytes i r ≡ cond has None (Some (bad_target_at bytes i r))
unfolding target_fault
target_read bytes i r has is =
    let symbol = symbol_of bytes r in
    let absolute : Bool = not (symbol.section == SHN_ABS) in
    four_rules (nat_lt 0 r.symbol) (not (is_outside symbol) || nat_lt 0 (length (symbol_name bytes r.symbol))) absolute
    (is_outside symbol || is_loaded bytes symbol.section) (bad_target_at bytes i r)
    ∙ ap (λ b. cond b None (Some (bad_target_at bytes i r)))
    (target_tests (nat_lt 0 r.symbol) (is_outside symbol) (nat_lt 0 (length (symbol_name bytes r.symbol))) absolute
    (is_loaded bytes symbol.section) (not_absolute symbol.section) ∙ sym is)

-- the text
pub text_read : (bytes : List ℕ) (i : ℕ) (r : Reloc) (addend : ℕ) (ends : Bool) → addend ≡ addend_in bytes i r →
    ends ≡ (not (is_strings bytes (symbol_of bytes r).section)
    || ends_in (section_bytes bytes (symbol_of bytes r).section) (text_offset (symbol_of bytes r) addend))
    → text_fault bytes i r ≡ cond ends None (Some (refusal.BadString (section_name bytes i) r.index))
unfolding text_fault
text_read bytes i r addend ends addend_is is = rw (is, addend_is) refl

-- where nothing is wrong with a relocation that has a field
typed_by : (r : Reloc) → has_field r ≡ true → (r.kind == R_386_NONE) ≡ false
typed_by r has = grind (arith, nat_tests)

parts_by : (null : Bool) (a b c : Option Refusal) → null ≡ false → cond null None (first_of a (first_of b c)) ≡ None
    → (a ≡ None) × (b ≡ None) × (c ≡ None)
parts_by true a b c typed none = absurd cc
parts_by false a b c typed none = (
  none_first a (first_of b c) none,
  none_first b c (none_second a (first_of b c) none),
  none_second b c
      (none_second a (first_of b c) none),
)

parts : (bytes : List ℕ) (i : ℕ) (r : Reloc) → has_field r ≡ true → relocation_fault_of bytes i r ≡ None
    → (kind_fault bytes i r ≡ None) × (target_fault bytes i r ≡ None) × (text_fault bytes i r ≡ None)
unfolding relocation_fault_of
parts bytes i r has none =
    parts_by (r.kind == R_386_NONE) (kind_fault bytes i r) (target_fault bytes i r) (text_fault bytes i r)
    (typed_by r has) none

target_leads : (bytes : List ℕ) (i : ℕ) (r : Reloc) → target_fault bytes i r ≡ None → (nat_lt 0 r.symbol ≡ true)
    × ((is_outside (symbol_of bytes r) || is_loaded bytes (symbol_of bytes r).section) ≡ true)
unfolding target_fault
target_leads bytes i r none = (grind arith, grind arith)

text_ends : (bytes : List ℕ) (i : ℕ) (r : Reloc) → text_fault bytes i r ≡ None
    → (not (is_strings bytes (symbol_of bytes r).section) || names_end bytes i r) ≡ true
unfolding text_fault
text_ends bytes i r none = grind arith

kind_strings : (bytes : List ℕ) (i : ℕ) (r : Reloc) → kind_fault bytes i r ≡ None → is_strings bytes i ≡ false
unfolding kind_fault
kind_strings bytes i r none = grind arith

or_second : (a b : Bool) → (a || b) ≡ true → a ≡ false → b ≡ true
or_second true b either none = absurd cc
or_second false b either none = either

not_second : (a b : Bool) → (not a || b) ≡ true → a ≡ true → b ≡ true
not_second true b either here = either
not_second false b either here = absurd cc

pub is_right : (bytes : List ℕ) (i : ℕ) (r : Reloc) → has_field r ≡ true → relocation_fault_of bytes i r ≡ None
    → IsRight bytes i r
is_right bytes i r has none =
    let part = parts bytes i r has none in
    let target = target_leads bytes i r part.1 in
    record {
      above_null = ltb-true 0 r.symbol target.0;
      leads = λ inside. or_second _ _ target.1 inside;
      ends = λ texts. not_second _ _ (text_ends bytes i r part.2) texts;
    }

is_field : (bytes : List ℕ) (i : ℕ) (r : Reloc) → has_field r ≡ true → IsPlaced bytes i r
    → relocation_fault_of bytes i r ≡ None → IsField bytes i r
is_field bytes i r has placed none =
    record { symbol = placed.symbol; within = placed.within has; right = is_right bytes i r has none }

-- a section of texts has no such relocation
pub no_strings : (bytes : List ℕ) (i : ℕ) (r : Reloc) → has_field r ≡ true → relocation_fault_of bytes i r ≡ None
    → is_strings bytes i ≡ false
no_strings bytes i r has none = kind_strings bytes i r (parts bytes i r has none).0

-- the first refusal in a list
pub among_none : (f : Reloc → Option Refusal) (xs : List Reloc) → first_among f xs ≡ None → All (λ x. f x ≡ None) xs
among_none f [] none = All-nil (λ x. f x ≡ None)
among_none f (x ∷ xs) none =
    All-cons (λ x. f x ≡ None) x xs (none_first (f x) (first_among f xs) none)
    (among_none f xs (none_second (f x) (first_among f xs) none))

among_found : (fault : Reloc → Option Refusal) (rs : List Reloc) (k : ℕ) (d : Reloc) (why : Refusal)
    → first_among fault (take k rs) ≡ None → k < length rs → fault (get_or rs k d) ≡ Some why
    → first_among fault rs ≡ Some why
among_found fault [] k d why before within here = absurd (omega arith)
among_found fault (r ∷ rs) zero d why before within here = rw here refl
among_found fault (r ∷ rs) (suc k) d why before within here =
    rw (none_first (fault r) (first_among fault (take k rs)) before)
    (among_found fault rs k d why (none_second (fault r) (first_among fault (take k rs)) before) (omega arith) here)

-- the same for a refusal that may be that memory ran out
pub finds_among : (fault : Reloc → Option Refusal) (rs : List Reloc) (k : ℕ) (r d : Reloc) (why : Refusal)
    → first_among fault (take k rs) ≡ None → k < length rs → r ≡ get_or rs k d
    → (why ≢ refusal.Memory → fault r ≡ Some why) → why ≢ refusal.Memory → first_among fault rs ≡ Some why
finds_among fault rs k r d why before within at known memory =
    among_found fault rs k d why before within (ap fault (sym at) ∙ known memory)

-- one more relocation that nothing is wrong with
among_one_more : (fault : Reloc → Option Refusal) (rs : List Reloc) (k : ℕ) (d : Reloc) → k < length rs
    → first_among fault (take k rs) ≡ None → fault (get_or rs k d) ≡ None → first_among fault (take (suc k) rs) ≡ None
among_one_more fault [] k d within before here = absurd (omega arith)
among_one_more fault (r ∷ rs) zero d within before here = rw here refl
among_one_more fault (r ∷ rs) (suc k) d within before here =
    rw (none_first (fault r) (first_among fault (take k rs)) before)
    (among_one_more fault rs k d (omega arith) (none_second (fault r) (first_among fault (take k rs)) before) here)

pub among_more : (fault : Reloc → Option Refusal) (rs : List Reloc) (k : ℕ) (r d : Reloc) → k < length rs
    → r ≡ get_or rs k d → first_among fault (take k rs) ≡ None → fault r ≡ None
    → first_among fault (take (k + 1) rs) ≡ None
among_more fault rs k r d within at before here =
    ap (λ n. first_among fault (take n rs)) (add-one k)
    ∙ among_one_more fault rs k d within before (ap fault (sym at) ∙ here)

-- the fields of a section that nothing is wrong with
each_field : (bytes : List ℕ) (i : ℕ) (relocations : List Reloc) → All (IsPlaced bytes i) relocations
    → first_among (relocation_fault_of bytes i) relocations ≡ None
    → All (IsField bytes i) (filter has_field relocations)
each_field bytes i relocations placed none = λ k d within.
    is_field bytes i _ (filter_passes has_field relocations k d within)
    (All-filter has_field (IsPlaced bytes i) relocations placed k d within)
    (All-filter has_field (λ r. relocation_fault_of bytes i r ≡ None) relocations
    (among_none (relocation_fault_of bytes i) relocations none) k d within)

pub fields_right : (bytes : List ℕ) (i : ℕ) (relocations fields : List Reloc) → All (IsPlaced bytes i) relocations
    → first_among (relocation_fault_of bytes i) relocations ≡ None → IsPermutation (filter has_field relocations) fields
    → All (IsField bytes i) fields
fields_right bytes i relocations fields placed none same =
    All-permutation (IsField bytes i) (filter has_field relocations) fields same
    (each_field bytes i relocations placed none)

pub fields_by_offset : (bytes : List ℕ) (i : ℕ) (relocations fields : List Reloc) → relocations ≡ relocations_of bytes i
    → fields ≡ fields_of bytes i → IsPermutation (filter has_field relocations) fields
    → IsNonDecreasingBy (λ r. r.offset) fields → AreByOffset (relocations_of bytes i) (fields_of bytes i)
fields_by_offset bytes i relocations fields are is same rises =
    rw (sym are, sym is) (record { same = same; rises = rises })

-- section by section
pub no_order : (bytes : List ℕ) → HasOrder bytes 0
no_order bytes = record { each = λ i within loaded. absurd (omega arith) }

pub order_more : (bytes : List ℕ) (n : ℕ) → HasOrder bytes n
    → (is_loaded bytes n ≡ true → AreByOffset (relocations_of bytes n) (fields_of bytes n)) → HasOrder bytes (n + 1)
order_more bytes n before here =
    record {
      each = λ i within.
          elim (cases_lt i n) [
            | inl lt ↦ before.each i lt
            | inr le ↦ let e : n ≡ i = omega arith in
                subst (λ (m : ℕ). is_loaded bytes m ≡ true → AreByOffset (relocations_of bytes m) (fields_of bytes m)) e
                here
          ];
    }

pub fields_are : (bytes : List ℕ) (i : ℕ) (relocations fields : List Reloc) → relocations ≡ relocations_of bytes i
    → All (IsPlaced bytes i) relocations → IsPermutation (filter has_field relocations) fields →
    ((bound : ℕ) → All (λ r. r.offset < bound) fields → fields ≡ by_offset relocations bound)
    → fields ≡ fields_of bytes i
unfolding fields_of
fields_are bytes i relocations fields are placed same sorted =
    let bound = (section_header bytes i).size in
    let begin = All-weaker (IsPlaced bytes i) (λ r. r.offset < bound) (λ r is. is.begins) relocations placed in
    sorted bound (All-permutation (λ r. r.offset < bound) (filter has_field relocations) fields same
    (All-filter has_field (λ r. r.offset < bound) relocations begin))
    ∙ ap (λ rs. by_offset rs bound) are
