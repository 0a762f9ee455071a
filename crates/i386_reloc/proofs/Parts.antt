-- The parts of a loaded section, from what was read of them.
use Rattle.std.proofs.Common.{◌≡◌, ℕ, zero, suc, ◌+◌, ◌≤◌, Bool, true, false, cond, List, [], ◌∷◌}
use Rattle.std.proofs.Common.{◌++◌, length, All, sym, ap, subst, ◌∙◌, arith, add-one, length-append}
use Rattle.std.proofs.lemmas.List.Elements.{All-weaker}
use Rattle.elf32_object.specs.declared.types.Reloc.{Reloc}
use Rattle.elf32_object.specs.Fields.{is_loaded, section_bytes}
use Rattle.i386_reloc.specs.declared.types.NormalSection.{NormalSection}
use Rattle.i386_reloc.specs.Normal.{loaded_below, normal_section}
use Rattle.i386_reloc.specs.inside.Fields.{IsField}

-- one more section
pub loaded_below_step : (bytes : List ℕ) (i : ℕ) (before after : List NormalSection) → before ≡ loaded_below bytes i
    → after ≡ cond (is_loaded bytes i) (before ++ normal_section bytes i ∷ []) before
    → after ≡ loaded_below bytes (i + 1)
loaded_below_step bytes i before after is now =
    now
    ∙ ap (λ xs. cond (is_loaded bytes i) (xs ++ normal_section bytes i ∷ []) xs) is
    ∙ sym (ap (loaded_below bytes) (add-one i))

length-loaded_more : (bytes : List ℕ) (i : ℕ) (b : Bool) → length (loaded_below bytes i) ≤ i
    → length (cond b (loaded_below bytes i ++ normal_section bytes i ∷ []) (loaded_below bytes i)) ≤ suc i
length-loaded_more bytes i true before =
    omega (arith, before, length-append (loaded_below bytes i) (normal_section bytes i ∷ []))
length-loaded_more bytes i false before = omega (arith, before)

pub length-loaded : (bytes : List ℕ) (i : ℕ) → length (loaded_below bytes i) ≤ i
length-loaded bytes zero = omega arith
length-loaded bytes (suc i) = length-loaded_more bytes i (is_loaded bytes i) (length-loaded bytes i)

-- there are no more loaded sections than sections
pub few_loaded : (bytes : List ℕ) (sections : List NormalSection) (n : ℕ) → sections ≡ loaded_below bytes n → n ≤ 4096
    → length sections ≤ 4096
few_loaded bytes sections n are few = omega (arith, ap length are, length-loaded bytes n, few)

-- the fields lie in the section's bytes
pub fields_within : (bytes : List ℕ) (i : ℕ) (here : List ℕ) (fields : List Reloc) → here ≡ section_bytes bytes i
    → All (IsField bytes i) fields → All (λ r. r.offset + 4 ≤ length here) fields
fields_within bytes i here fields are each =
    All-weaker (IsField bytes i) (λ r. r.offset + 4 ≤ length here)
    (λ r is. subst (λ (bs : List ℕ). r.offset + 4 ≤ length bs) (sym are) is.within) fields each
