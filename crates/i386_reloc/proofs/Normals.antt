-- What an object's loaded sections are where nothing is wrong with it.
use Rattle.std.proofs.Common.{◌≡◌, ℕ, zero, suc, Bool, true, false, ◌&&◌, ◌||◌, cond, List, [], ◌∷◌, ◌++◌}
use Rattle.std.proofs.Common.{Option, Some, None, IsSome, is_none, option_map, refl, arith, All}
use Rattle.std.proofs.lemmas.List.Elements.{All-append}
use Rattle.elf32_object.specs.Below.{first_below}
use Rattle.elf32_object.specs.Fields.{section_count, section_header, is_loaded, symbol_name}
use Rattle.elf32_object.specs.laws.BelowLaws.{both_none}
use Rattle.ks_base.specs.declared.refusals.Refusal.{Refusal}
use Rattle.i386_reloc.specs.declared.types.Class.{Class}
use Rattle.i386_reloc.specs.declared.types.Class.TheVariants.{Code}
use Rattle.i386_reloc.specs.Classes.{class_of, is_code_class, is_code}
use Rattle.i386_reloc.specs.Normal.{function_symbol, has_inner_function, normal_section, loaded_below}
use Rattle.i386_reloc.specs.Normal.{loaded_sections, IsFunction, is_not_one_function}
use Rattle.i386_reloc.specs.Refused.{function_fault_at, name_fault}
use Rattle.i386_reloc.specs.Refused.{function_fault, relocation_fault, normal_fault}
use Rattle.i386_reloc.specs.laws.NameLaws.{not_refused}

-- a loaded code section with which nothing is wrong is a function
code_class : (class : Class) → class ≡ Code → is_code_class class ≡ true
code_class class code = rw code refl

one_symbol : (loaded code : Bool) (symbol : Option ℕ) (inner : Bool) → loaded ≡ true → code ≡ true
    → loaded && code && (is_none symbol || inner) ≡ false → (name : ℕ → List ℕ) → IsSome (option_map name symbol)
one_symbol true true None inner is_loaded is_code ok name = absurd cc
one_symbol true true (Some k) inner is_loaded is_code ok name = refl
one_symbol true false symbol inner is_loaded is_code ok name = absurd cc
one_symbol false code symbol inner is_loaded is_code ok name = absurd cc

function_here : (bytes : List ℕ) (i : ℕ) → is_loaded bytes i ≡ true → function_fault_at bytes i ≡ None
    → IsFunction (normal_section bytes i)
unfolding normal_section function_fault_at is_not_one_function is_code
function_here bytes i loaded functions =
    record {
      named = λ code. one_symbol (is_loaded bytes i) (is_code_class (class_of (section_header bytes i)))
          (function_symbol bytes i) (has_inner_function bytes i) loaded
          (code_class (class_of (section_header bytes i)) code) (not_refused _ _ functions) (symbol_name bytes);
    }

functions_more : (bytes : List ℕ) (i : ℕ) (b : Bool) → is_loaded bytes i ≡ b → function_fault_at bytes i ≡ None
    → All IsFunction (loaded_below bytes i) → All IsFunction
    (cond b (loaded_below bytes i ++ normal_section bytes i ∷ []) (loaded_below bytes i))
functions_more bytes i true loaded functions before =
    All-append IsFunction (loaded_below bytes i) (normal_section bytes i ∷ []) before
    (λ k d within. let e : k ≡ 0 = omega arith in rw e (function_here bytes i loaded functions))
functions_more bytes i false loaded functions before = before

functions_below : (bytes : List ℕ) (n : ℕ) → first_below (function_fault_at bytes) n ≡ None
    → All IsFunction (loaded_below bytes n)
functions_below bytes zero functions = λ k d within. absurd (omega arith)
functions_below bytes (suc n) functions =
    let f = both_none (first_below (function_fault_at bytes) n) (function_fault_at bytes n) functions in
    functions_more bytes n (is_loaded bytes n) refl f.1 (functions_below bytes n f.0)

-- This is said of all loaded sections.
pub all_functions : (bytes : List ℕ) → normal_fault bytes ≡ None → All IsFunction (loaded_sections bytes)
unfolding normal_fault function_fault loaded_sections
all_functions bytes none = functions_below bytes (section_count bytes) (both_none _ _ (both_none _ _ none).1).0

pub no_fault : (bytes : List ℕ) → name_fault bytes ≡ None → function_fault bytes ≡ None → relocation_fault bytes ≡ None
    → normal_fault bytes ≡ None
unfolding normal_fault
no_fault bytes names functions relocations = rw (names, functions, relocations) refl

pub relocation_refused : (bytes : List ℕ) (why : Refusal) → name_fault bytes ≡ None → function_fault bytes ≡ None
    → relocation_fault bytes ≡ Some why → normal_fault bytes ≡ Some why
unfolding normal_fault
relocation_refused bytes why names functions relocations = rw (names, functions, relocations) refl
