-- The references of each loaded section stand by offset, since its fields do.
use Rattle.std.proofs.Common.{◌≡◌, ℕ, zero, suc, ◌<◌, Bool, true, false, ◌&&◌, cond, List}
use Rattle.std.proofs.Common.{[], ◌∷◌, ◌++◌, length, map, get_or, refl, ap, arith, All}
use Rattle.std.specs.List.Sorted.{IsNonDecreasingBy}
use Rattle.std.proofs.lemmas.List.{get_or-map, length-map}
use Rattle.std.proofs.lemmas.List.Elements.{All-nil, All-push}
use Rattle.elf32_object.specs.declared.types.Reloc.{Reloc}
use Rattle.elf32_object.specs.Fields.{section_count, is_loaded}
use Rattle.i386_reloc.specs.declared.types.Target.{Target}
use Rattle.i386_reloc.specs.Classes.{is_strings}
use Rattle.i386_reloc.specs.Normal.{loaded_below, loaded_sections, normal_section, HasFieldsInOrder}
use Rattle.i386_reloc.specs.References.{symbol_of, is_outside, is_section_symbol, reference_to}
use Rattle.i386_reloc.specs.References.{reference_of, references_of, fields_of, HasOrder}

-- a reference stands where its relocation does
offset_by : (r : Reloc) (outside texts named : Bool) (out by_addend by_value inside : Target) (a b c d : ℕ)
    → (cond outside (reference_to r out a)
    (cond (texts && named) (reference_to r by_addend b)
    (cond texts (reference_to r by_value c) (reference_to r inside d)))).offset ≡ r.offset
offset_by r true texts named out by_addend by_value inside a b c d = refl
offset_by r false true true out by_addend by_value inside a b c d = refl
offset_by r false true false out by_addend by_value inside a b c d = refl
offset_by r false false named out by_addend by_value inside a b c d = refl

offset_is : (bytes : List ℕ) (i : ℕ) (r : Reloc) → (reference_of bytes i r).offset ≡ r.offset
unfolding reference_of
offset_is bytes i r =
    let symbol = symbol_of bytes r in
    offset_by r (is_outside symbol) (is_strings bytes symbol.section) (is_section_symbol symbol) _ _ _ _ _ _ _ _

-- what a function that keeps numbers makes of a list by these numbers
order-map : {X Y : Type 0} (f : X → Y) (m : X → ℕ) (n : Y → ℕ) → ((x : X) → n (f x) ≡ m x) → (xs : List X)
    → IsNonDecreasingBy m xs → IsNonDecreasingBy n (map f xs)
order-map f m n kept [] order = λ i j d le within. absurd (omega (arith, within))
order-map f m n kept (x ∷ xs) order = λ i j d le within.
    let short : j < length (x ∷ xs) = omega (arith, within, length-map (x ∷ xs) f) in
    let low = ap n (get_or-map f (x ∷ xs) i x d (omega arith)) in
    let high = ap n (get_or-map f (x ∷ xs) j x d short) in
    omega (arith, low, high, kept (get_or (x ∷ xs) i x), kept (get_or (x ∷ xs) j x), order i j x le short)

in_order : (bytes : List ℕ) (i : ℕ) → IsNonDecreasingBy (λ r. r.offset) (fields_of bytes i)
    → HasFieldsInOrder (normal_section bytes i)
unfolding normal_section references_of
in_order bytes i order =
    record {
      rises = order-map (reference_of bytes i) (λ r. r.offset) (λ r. r.offset) (offset_is bytes i)
          (fields_of bytes i) order;
    }

order_more : (bytes : List ℕ) (i : ℕ) (b : Bool) → is_loaded bytes i ≡ b
    → (is_loaded bytes i ≡ true → HasFieldsInOrder (normal_section bytes i))
    → All HasFieldsInOrder (loaded_below bytes i) → All HasFieldsInOrder
    (cond b (loaded_below bytes i ++ normal_section bytes i ∷ []) (loaded_below bytes i))
order_more bytes i true loaded here before =
    All-push HasFieldsInOrder (loaded_below bytes i) (normal_section bytes i) before (here loaded)
order_more bytes i false loaded here before = before

order_below : (bytes : List ℕ) (n : ℕ)
    → ((i : ℕ) → i < n → is_loaded bytes i ≡ true → IsNonDecreasingBy (λ r. r.offset) (fields_of bytes i))
    → All HasFieldsInOrder (loaded_below bytes n)
order_below bytes zero each = All-nil HasFieldsInOrder
order_below bytes (suc n) each =
    order_more bytes n (is_loaded bytes n) refl (λ loaded. in_order bytes n (each n (omega arith) loaded))
    (order_below bytes n (λ i within loaded. each i (omega arith) loaded))

pub all_in_order : (bytes : List ℕ) → HasOrder bytes (section_count bytes)
    → All HasFieldsInOrder (loaded_sections bytes)
unfolding loaded_sections
all_in_order bytes order = order_below bytes (section_count bytes)
    (λ i within loaded. (order.each i within loaded).rises)
