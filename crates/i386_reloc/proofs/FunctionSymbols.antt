-- The table of function symbols, symbol by symbol, and what it says of a section.
use Rattle.std.proofs.Common.{◌≡◌, ℕ, zero, suc, ◌+◌, ◌%◌, not, ◌<◌, nat_lt, ◌==◌, Bool, true}
use Rattle.std.proofs.Common.{false, ◌&&◌, ◌||◌, cond, List, length, get_or, slice_index_or}
use Rattle.std.proofs.Common.{Option, Some, None, refl, sym, ap, ◌∙◌, arith, add-one}
use Rattle.std.proofs.lemmas.Bool.{ltb-true}
use Rattle.std.proofs.lemmas.Bool.Decides.{nat_tests}
use Rattle.std.proofs.lemmas.List.{get_or-replicate, length-replicate}
use Rattle.std.proofs.Math.ListN.{replicate}
use Rattle.elf32_object.specs.declared.types.Section.{Section}
use Rattle.elf32_object.specs.Below.{first_of, least_below}
use Rattle.elf32_object.specs.Fields.{section_count, symbol_count, symbol_entry}
use Rattle.i386_reloc.specs.declared.types.Class.{Class}
use Rattle.i386_reloc.specs.declared.functions.Functions.{Functions}
use Rattle.i386_reloc.specs.inside.Functions.{functions_below, functions_with, AreFunctions}
use Rattle.i386_reloc.specs.inside.Loaded.{IsLoadedSection}
use Rattle.i386_reloc.specs.Classes.{class_by, is_code_class, is_code}
use Rattle.i386_reloc.specs.Normal.{is_function_of, starts, function_symbol}
use Rattle.i386_reloc.proofs.Faults.{class_of_read}

no_functions : (bytes : List ℕ) (i : ℕ) → functions_below bytes i 0 ≡ record { first = None; inner = false }
unfolding functions_below
no_functions bytes i = refl

pub are_no_functions : (bytes : List ℕ) (n : ℕ) → n ≡ section_count bytes
    → AreFunctions bytes 0 (replicate n (record { first = None; inner = false }))
are_no_functions bytes n all =
    record {
      len = simp length-replicate all;
      each = λ i d within.
          let within' : i < n = omega arith in
          get_or-replicate n i (record { first = None; inner = false }) d within' ∙ sym (no_functions bytes i);
    }

abbrev functions_of : Option ℕ → Bool → Functions
functions_of first inner = record { first = first; inner = inner }

or_false : (b : Bool) → b || false ≡ b
or_false true = refl
or_false false = refl

or_true : (b : Bool) → b || true ≡ true
or_true true = refl
or_true false = refl

first_of_none : (o : Option ℕ) → first_of o None ≡ o
first_of_none None = refl
first_of_none (Some x) = refl

-- one more symbol
with_value : (at_start : Bool) (functions : Functions) (k : ℕ) →
    cond at_start (functions_of (first_of functions.first (Some k)) functions.inner) (functions_of functions.first true)
    ≡ functions_of (first_of functions.first (cond at_start (Some k) None)) (functions.inner || not at_start)
with_value true functions k =
    ap (functions_of (first_of functions.first (Some k))) (sym (or_false functions.inner))
with_value false functions k =
    ap (λ o. functions_of o true) (sym (first_of_none functions.first))
    ∙ ap (functions_of (first_of functions.first None)) (sym (or_true functions.inner))

with_symbol : (is_function : Bool) (functions : Functions) (k value : ℕ) →
    cond is_function (functions_with functions k value) functions
    ≡ functions_of (first_of functions.first (cond (is_function && value == 0) (Some k) None))
    (functions.inner || (is_function && nat_lt 0 value))
with_symbol true functions k value =
    let e : nat_lt 0 value ≡ not (value == 0) = grind (arith, nat_tests) in
    rw e (with_value (value == 0) functions k)
with_symbol false functions k value =
    ap (λ o. functions_of o functions.inner) (sym (first_of_none functions.first))
    ∙ ap (functions_of (first_of functions.first None)) (sym (or_false functions.inner))

pub functions_more : (bytes : List ℕ) (i k : ℕ) → 0 < k →
    functions_below bytes i (k + 1)
    ≡ cond ((symbol_entry bytes k).info % 16 == 2 && (symbol_entry bytes k).section == i)
    (functions_with (functions_below bytes i k) k (symbol_entry bytes k).value)
    (functions_below bytes i k)
unfolding functions_below starts is_function_of
functions_more bytes i k above =
    let e : nat_lt 0 k ≡ true = grind (arith, nat_tests) in
    rw (add-one, e)
    (sym (with_symbol ((symbol_entry bytes k).info % 16 == 2 && (symbol_entry bytes k).section == i)
    (functions_below bytes i k) k (symbol_entry bytes k).value))

-- symbol 0 is no function
pub functions_null : (bytes : List ℕ) (i k : ℕ) → k ≡ 0 → functions_below bytes i (k + 1) ≡ functions_below bytes i k
unfolding functions_below starts is_function_of
functions_null bytes i k null = rw (add-one, null) refl

pub are_functions_null : (bytes : List ℕ) (k : ℕ) (table : List Functions) → k ≡ 0 → AreFunctions bytes k table
    → AreFunctions bytes (k + 1) table
are_functions_null bytes k table null before =
    record { len = before.len; each = λ i d within. before.each i d within ∙ sym (functions_null bytes i k null) }

pub are_functions_more : (bytes : List ℕ) (k : ℕ) (table noted : List Functions) (info section value : ℕ) → 0 < k
    → info ≡ (symbol_entry bytes k).info → section ≡ (symbol_entry bytes k).section
    → value ≡ (symbol_entry bytes k).value → length noted ≡ length table →
    ((i : ℕ) (d : Functions) → i < length table → get_or noted i d ≡ cond (info % 16 == 2 && section == i)
    (functions_with (get_or table i d) k value) (get_or table i d)) →
    AreFunctions bytes k table → AreFunctions bytes (k + 1) noted
are_functions_more bytes k table noted info section value above info_is section_is value_is same_length each before =
    record {
      len = same_length ∙ before.len;
      each = λ i d within.
          let within' : i < length table = omega (arith, before.len) in
          each i d within'
          ∙ rw (info_is, section_is, value_is, before.each i d within) (sym (functions_more bytes i k above));
    }

-- what the table says of a section
pub function_symbol_read : (bytes : List ℕ) (i : ℕ) (section : Section) (functions : Functions)
    → IsLoadedSection bytes i section → functions ≡ functions_below bytes i (symbol_count bytes)
    → function_symbol bytes i ≡ cond (is_code_class (class_by section.kind section.flags section.entry)) functions.first
    None
unfolding function_symbol is_code functions_below
function_symbol_read bytes i section functions read gathered =
    rw (gathered, read.loaded, class_of_read bytes i section read) refl

pub symbol_read : (bytes : List ℕ) (i : ℕ) (section : Section) (class : Class) (functions : List Functions)
    (d : Functions) (symbol : Option ℕ) → IsLoadedSection bytes i section
    → AreFunctions bytes (symbol_count bytes) functions → i < section_count bytes
    → class ≡ class_by section.kind section.flags section.entry
    → symbol ≡ cond (is_code_class class) (slice_index_or functions i d).first None → symbol ≡ function_symbol bytes i
symbol_read bytes i section class functions d symbol read gathered within class_is symbol_is =
    symbol_is ∙ rw class_is (sym (function_symbol_read bytes i section (slice_index_or functions i d) read
    (gathered.each i d within)))

least_below_last : (test : Bool) (n k : ℕ) → cond test (Some n) None ≡ Some k → (k ≡ n) × (test ≡ true)
least_below_last true n k found = (cc, refl)
least_below_last false n k found = absurd cc

least_below_step : (test : ℕ → Bool) (n k : ℕ) (earlier : Option ℕ) → (earlier ≡ Some k → (k < n) × (test k ≡ true))
    → first_of earlier (cond (test n) (Some n) None) ≡ Some k → (k < suc n) × (test k ≡ true)
least_below_step test n k None before found =
    let last = least_below_last (test n) n k found in (omega (arith, last.0), rw last.0 last.1)
least_below_step test n k (Some x) before found =
    let last = before found in (omega (arith, last.0), last.1)

least_below_in : (test : ℕ → Bool) (n k : ℕ) → least_below test n ≡ Some k → (k < n) × (test k ≡ true)
least_below_in test zero k found = absurd cc
least_below_in test (suc n) k found =
    least_below_step test n k (least_below test n) (λ before. least_below_in test n k before) found

and_left_true : (x y : Bool) → x && y ≡ true → x ≡ true
and_left_true true y both = refl
and_left_true false y both = both

in_symbols : (bytes : List ℕ) (i k : ℕ) (code : Bool)
    → cond code (least_below (starts bytes i) (symbol_count bytes)) None ≡ Some k → (0 < k) × (k < symbol_count bytes)
unfolding starts is_function_of
in_symbols bytes i k true found =
    let at = least_below_in (starts bytes i) (symbol_count bytes) k found in
    (ltb-true 0 k (and_left_true _ _ (and_left_true _ _ (and_left_true _ _ at.1))), at.0)
in_symbols bytes i k false found = absurd cc

pub function_symbol_in : (bytes : List ℕ) (i k : ℕ) → function_symbol bytes i ≡ Some k → (0 < k)
    × (k < symbol_count bytes)
unfolding function_symbol
function_symbol_in bytes i k found = in_symbols bytes i k (is_code bytes i) found
