-- The names of symbols of an object that breaks no rule are short and have no zero.
use Rattle.std.proofs.Common.{◌≡◌, ℕ, zero, suc, ◌+◌, ◌<◌, ◌≤◌, Bool, true, false, ◌==◌, ◌&&◌, nat_lt, cond, List, []}
use Rattle.std.proofs.Common.{◌∷◌, ◌++◌, length, take, drop, not, Option, Some, None, option_map, unwrap_or, refl, sym, arith, All}
use Rattle.std.proofs.Common.{inl, inr, if◌then◌else◌}
use Rattle.std.specs.List.{list_any, before_first, prefix_len}
use Rattle.std.proofs.lemmas.Bool.{cases_Bool}
use Rattle.std.proofs.lemmas.Bool.Decides.{nat_tests}
use Rattle.std.proofs.lemmas.List.Elements.{All-append}
use Rattle.elf32_object.specs.Below.{first_of, first_below, least_below, all_below}
use Rattle.elf32_object.specs.Fields.{is_zero, is_loaded, section_count, symbol_count, symbol_entry, symbol_name}
use Rattle.elf32_object.specs.Fields.{symbol_names}
use Rattle.elf32_object.specs.Rules.{object_fault, symbol_fault}
use Rattle.elf32_object.specs.laws.BelowLaws.{none_first, none_second, none_below}
use Rattle.i386_reloc.specs.declared.types.ObjectSymbol.{ObjectSymbol}
use Rattle.i386_reloc.specs.declared.types.NormalSection.{NormalSection}
use Rattle.i386_reloc.specs.Classes.{is_code}
use Rattle.i386_reloc.specs.Normal.{function_symbol, is_function_of, starts, loaded_below, loaded_sections, normal_section}
use Rattle.i386_reloc.specs.References.{is_object_of, object_symbol, objects_of}
use Rattle.i386_reloc.specs.Whole.{IsSymbolName, HasSymbolNames}

abbrev stays : ℕ → Bool
stays byte = not (is_zero byte)

zero_here : (x : ℕ) (b : Bool) (xs : List ℕ) → is_zero x ≡ b → list_any is_zero (before_first is_zero xs) ≡ false
    → list_any is_zero (take (cond (not b) (1 + prefix_len stays xs) 0) (x ∷ xs)) ≡ false
zero_here x true xs e rest = refl
zero_here x false xs e rest =
    let more : 1 + prefix_len stays xs ≡ suc (prefix_len stays xs) = omega arith in
    rw (more, e) rest

no_zero : (xs : List ℕ) → list_any is_zero (before_first is_zero xs) ≡ false
no_zero [] = refl
no_zero (x ∷ xs) = zero_here x (is_zero x) xs refl (no_zero xs)

symbols_kept : (bytes : List ℕ) → object_fault bytes ≡ None
    → first_below (symbol_fault bytes) (symbol_count bytes) ≡ None
unfolding object_fault
symbols_kept bytes e = grind (arith, none_first, none_second)

short_name : (bytes : List ℕ) (k : ℕ) → 0 < k → symbol_fault bytes k ≡ None → length (symbol_name bytes k) ≤ 4096
unfolding symbol_fault
short_name bytes zero above e = absurd (omega arith)
short_name bytes (suc k) above e = grind (arith, nat_tests)

-- the name of a symbol, and of none
is_name : (bytes : List ℕ) (k : ℕ) → object_fault bytes ≡ None → 0 < k → k < symbol_count bytes
    → IsSymbolName (symbol_name bytes k)
unfolding symbol_name
is_name bytes k e above within =
    record {
      short =
          short_name bytes k above (none_below (symbol_fault bytes) (symbol_count bytes) (symbols_kept bytes e) k within);
      no_zero = no_zero (drop (symbol_entry bytes k).name (symbol_names bytes));
    }

no_name : IsSymbolName []
no_name = record { short = omega arith; no_zero = refl }

-- the number of a symbol is that of one
record IsSymbol (bytes : List ℕ) (k : ℕ) : Type 0 where
  above : 0 < k
  within : k < symbol_count bytes

abbrev IsSymbolOf : List ℕ → Option ℕ → Type 0
IsSymbolOf bytes found = (k : ℕ) → found ≡ Some k → IsSymbol bytes k

least_more : (test : ℕ → Bool) (bytes : List ℕ) (n : ℕ) (b : Bool) (before : Option ℕ) → IsSymbolOf bytes before
    → (b ≡ true → IsSymbol bytes n) → IsSymbolOf bytes (first_of before (cond b (Some n) None))
least_more test bytes n b (Some i) ok here k found = ok k found
least_more test bytes n true None ok here k found =
    let e : n ≡ k = grind arith in
    rw (← e) (here refl)
least_more test bytes n false None ok here k found = absurd cc

least_is : (bytes : List ℕ) (test : ℕ → Bool) → ((k : ℕ) → test k ≡ true → 0 < k) → (n : ℕ) → n ≤ symbol_count bytes
    → IsSymbolOf bytes (least_below test n)
least_is bytes test positive zero le = λ k found. absurd cc
least_is bytes test positive (suc n) le =
    least_more test bytes n (test n) (least_below test n) (least_is bytes test positive n (omega (arith, le)))
    (λ passes. record { above = positive n passes; within = omega (arith, le) })

starts_above : (bytes : List ℕ) (i k : ℕ) → starts bytes i k ≡ true → 0 < k
unfolding starts is_function_of
starts_above bytes i k e = grind (arith, nat_tests)

function_is : (bytes : List ℕ) (i : ℕ) → IsSymbolOf bytes (function_symbol bytes i)
unfolding function_symbol
function_is bytes i =
    elim (cases_Bool (is_code bytes i)) [
      | inl code ↦ rw code
          (least_is bytes (starts bytes i) (starts_above bytes i) (symbol_count bytes) (omega arith))
      | inr other ↦ rw other (λ k found. absurd cc)
    ]

name_by : (bytes : List ℕ) (symbol : Option ℕ) → object_fault bytes ≡ None → IsSymbolOf bytes symbol
    → IsSymbolName (unwrap_or (option_map (symbol_name bytes) symbol) [])
name_by bytes None e ok = no_name
name_by bytes (Some k) e ok = let it = ok k refl in is_name bytes k e it.above it.within

abbrev IsNamed : ObjectSymbol → Type 0
IsNamed object = IsSymbolName object.name

variable_here : (bytes : List ℕ) (k : ℕ) (b : Bool) → (b ≡ true → IsNamed (object_symbol bytes k))
    → All IsNamed (cond b (object_symbol bytes k ∷ []) [])
variable_here bytes k true ok = λ j d within. let e : j ≡ 0 = omega arith in rw e (ok refl)
variable_here bytes k false ok = λ j d within. absurd (omega arith)

variables_below : (bytes : List ℕ) (i : ℕ) → object_fault bytes ≡ None → (n : ℕ) → n ≤ symbol_count bytes
    → All IsNamed (all_below (λ k. cond (is_object_of bytes i k) (object_symbol bytes k ∷ []) []) n)
variables_below bytes i e zero le = λ k d within. absurd (omega arith)
variables_below bytes i e (suc n) le =
    All-append IsNamed (all_below (λ k. cond (is_object_of bytes i k) (object_symbol bytes k ∷ []) []) n)
    (cond (is_object_of bytes i n) (object_symbol bytes n ∷ []) []) (variables_below bytes i e n (omega (arith, le)))
    (variable_here bytes n (is_object_of bytes i n)
    (λ here. is_name bytes n e (grind (arith, nat_tests)) (omega (arith, le))))

named_here : (bytes : List ℕ) (i : ℕ) → object_fault bytes ≡ None → HasSymbolNames (normal_section bytes i)
unfolding normal_section objects_of
named_here bytes i e =
    record {
      function = name_by bytes (function_symbol bytes i) e (function_is bytes i);
      variables = variables_below bytes i e (symbol_count bytes) (omega arith);
    }

named_more : (bytes : List ℕ) (i : ℕ) (b : Bool) → object_fault bytes ≡ None
    → All HasSymbolNames (loaded_below bytes i)
    → All HasSymbolNames (cond b (loaded_below bytes i ++ normal_section bytes i ∷ []) (loaded_below bytes i))
named_more bytes i true e before =
    All-append HasSymbolNames (loaded_below bytes i) (normal_section bytes i ∷ []) before
    (λ k d within. let it : k ≡ 0 = omega arith in rw it (named_here bytes i e))
named_more bytes i false e before = before

named_below : (bytes : List ℕ) (n : ℕ) → object_fault bytes ≡ None → All HasSymbolNames (loaded_below bytes n)
named_below bytes zero e = λ k d within. absurd (omega arith)
named_below bytes (suc n) e = named_more bytes n (is_loaded bytes n) e (named_below bytes n e)

-- This is said of all loaded sections.
pub all_symbol_names : (bytes : List ℕ) → object_fault bytes ≡ None → All HasSymbolNames (loaded_sections bytes)
unfolding loaded_sections
all_symbol_names bytes e = named_below bytes (section_count bytes) e
