-- What references go to, and the places of their targets.
use Rattle.std.proofs.Common.{◌≡◌, ℕ, zero, suc, ◌+◌, ◌^◌, ◌%◌, Bool, true, false, ◌&&◌, cond, List, [], ◌∷◌}
use Rattle.std.proofs.Common.{◌++◌, length, map, Option, Some, None, refl, ap, sym, ◌∙◌, arith, All, append-nil}
use Rattle.std.proofs.lemmas.List.{map-append}
use Rattle.elf32_object.specs.declared.types.Reloc.{Reloc}
use Rattle.elf32_object.specs.Fields.{section_count, section_name, section_bytes, symbol_name, is_loaded}
use Rattle.i386_reloc.specs.declared.types.NormalSection.{NormalSection}
use Rattle.i386_reloc.specs.declared.types.Ref.{Ref}
use Rattle.i386_reloc.specs.declared.types.Target.TheVariants as to
use Rattle.i386_reloc.specs.Classes.{is_strings}
use Rattle.i386_reloc.specs.Normal.{loaded_below, loaded_sections, normal_section}
use Rattle.i386_reloc.specs.Places.{place_named, place_of_target}
use Rattle.i386_reloc.specs.References.{symbol_of, is_outside, is_section_symbol, text_offset, text_through}
use Rattle.i386_reloc.specs.References.{text_target, reference_to, addend_in, reference_of, references_of, fields_of}
use Rattle.i386_reloc.specs.Refused.{name_fault, relocation_fault}
use Rattle.i386_reloc.specs.inside.Fields.{IsRight}
use Rattle.i386_reloc.specs.inside.Targets.{targets_of, targets_in, place_by_index, places_of, places_below}
use Rattle.i386_reloc.proofs.LoadedPlaces.{is_at}
use Rattle.i386_reloc.proofs.RightFields.{all_right, loaded_within}

-- the rows of the table of targets, one by one
pub outside_row : (bytes : List ℕ) (i : ℕ) (r : Reloc) → is_outside (symbol_of bytes r) ≡ true
    → reference_of bytes i r ≡ reference_to r (to.Outside (symbol_name bytes r.symbol)) (addend_in bytes i r)
unfolding reference_of
outside_row bytes i r outside = rw outside refl

pub section_row : (bytes : List ℕ) (i : ℕ) (r : Reloc) → is_outside (symbol_of bytes r) ≡ false
    → is_strings bytes (symbol_of bytes r).section ≡ false
    → reference_of bytes i r ≡ reference_to r (to.Section (section_name bytes (symbol_of bytes r).section))
    ((addend_in bytes i r + (symbol_of bytes r).value) % 2 ^ 32)
unfolding reference_of
section_row bytes i r inside texts = rw (inside, texts) refl

pub addend_row : (bytes : List ℕ) (i : ℕ) (r : Reloc) → is_outside (symbol_of bytes r) ≡ false
    → is_strings bytes (symbol_of bytes r).section ≡ true → is_section_symbol (symbol_of bytes r) ≡ true
    → reference_of bytes i r ≡ reference_to r (text_target bytes (symbol_of bytes r).section (addend_in bytes i r)) 0
unfolding reference_of
addend_row bytes i r inside texts named = rw (inside, texts, named) refl

pub value_row : (bytes : List ℕ) (i : ℕ) (r : Reloc) → is_outside (symbol_of bytes r) ≡ false
    → is_strings bytes (symbol_of bytes r).section ≡ true → is_section_symbol (symbol_of bytes r) ≡ false
    → reference_of bytes i r ≡ reference_to r (text_target bytes (symbol_of bytes r).section (symbol_of bytes r).value)
    (addend_in bytes i r)
unfolding reference_of
value_row bytes i r inside texts named = rw (inside, texts, named) refl

-- a text that was read
pub text_read : (bytes name texts : List ℕ) (j section offset here : ℕ) → section ≡ j
    → name ≡ section_name bytes section → texts ≡ section_bytes bytes section → offset ≡ here
    → to.Text name offset (text_through texts offset) ≡ text_target bytes j here
text_read bytes name texts j section offset here section_is name_is texts_are offset_is =
    rw (name_is, texts_are, section_is, offset_is) refl

-- the target alone
target_by : (r : Reloc) (outside strings named : Bool) (out name bytes : List ℕ) (a v sum : ℕ) →
    (cond outside (reference_to r (to.Outside out) a)
    (cond (strings && named) (reference_to r (to.Text name a (text_through bytes a)) 0)
    (cond strings (reference_to r (to.Text name v (text_through bytes v)) a)
    (reference_to r (to.Section name) sum)))).target
    ≡ cond outside (to.Outside out)
    (cond strings (to.Text name (cond named a v) (text_through bytes (cond named a v))) (to.Section name))
target_by r true strings named out name bytes a v sum = refl
target_by r false true true out name bytes a v sum = refl
target_by r false true false out name bytes a v sum = refl
target_by r false false named out name bytes a v sum = refl

pub target_is : (bytes : List ℕ) (i : ℕ) (r : Reloc) →
    (reference_of bytes i r).target
    ≡ cond (is_outside (symbol_of bytes r)) (to.Outside (symbol_name bytes r.symbol))
    (cond (is_strings bytes (symbol_of bytes r).section)
    (text_target bytes (symbol_of bytes r).section (text_offset (symbol_of bytes r) (addend_in bytes i r)))
    (to.Section (section_name bytes (symbol_of bytes r).section)))
unfolding reference_of
target_is bytes i r =
    let symbol = symbol_of bytes r in
    target_by r (is_outside symbol) (is_strings bytes symbol.section) (is_section_symbol symbol)
    (symbol_name bytes r.symbol) (section_name bytes symbol.section) (section_bytes bytes symbol.section)
    (addend_in bytes i r) symbol.value ((addend_in bytes i r + symbol.value) % 2 ^ 32)

-- its place, by the index of the symbol's section
pub place_outside : (bytes : List ℕ) (r : Reloc) → is_outside (symbol_of bytes r) ≡ true → place_by_index bytes r ≡ None
unfolding place_by_index
place_outside bytes r outside = rw outside refl

pub place_inside : (bytes : List ℕ) (r : Reloc) → is_outside (symbol_of bytes r) ≡ false
    → place_by_index bytes r ≡ Some (length (loaded_below bytes (symbol_of bytes r).section))
unfolding place_by_index
place_inside bytes r inside = rw inside refl

going_by : (sections : List NormalSection) (outside strings : Bool) (out name : List ℕ) (offset : ℕ) (text : List ℕ)
    (place : ℕ) → (outside ≡ false → place_named sections name ≡ Some place)
    → cond outside None (Some place) ≡ place_of_target sections
    (cond outside (to.Outside out) (cond strings (to.Text name offset text) (to.Section name)))
going_by sections true strings out name offset text place at = refl
going_by sections false true out name offset text place at = sym (at refl)
going_by sections false false out name offset text place at = sym (at refl)

going : (bytes : List ℕ) (i : ℕ) (r : Reloc) → name_fault bytes ≡ None → IsRight bytes i r
    → place_by_index bytes r ≡ place_of_target (loaded_sections bytes) (reference_of bytes i r).target
unfolding place_by_index loaded_sections name_fault
going bytes i r names right =
    let symbol = symbol_of bytes r in
    let j = symbol.section in
    let offset = text_offset symbol (addend_in bytes i r) in
    going_by (loaded_below bytes (section_count bytes)) (is_outside symbol) (is_strings bytes j)
    (symbol_name bytes r.symbol) (section_name bytes j) offset (text_through (section_bytes bytes j) offset)
    (length (loaded_below bytes j))
    (λ inside.
    let loaded = right.leads inside in
    (is_at bytes j (section_count bytes) loaded (loaded_within bytes j loaded) names).0)
    ∙ ap (place_of_target (loaded_below bytes (section_count bytes))) (sym (target_is bytes i r))

going_each : (bytes : List ℕ) (i : ℕ) (rs : List Reloc) → name_fault bytes ≡ None → All (IsRight bytes i) rs
    → map (place_by_index bytes) rs ≡ map (λ (r : Ref). place_of_target (loaded_sections bytes) r.target)
    (map (reference_of bytes i) rs)
going_each bytes i [] names are = refl
going_each bytes i (r ∷ rs) names are =
    ap (λ place. place ∷ map (place_by_index bytes) rs) (going bytes i r names (are 0 r (omega arith)))
    ∙ ap (λ places. place_of_target (loaded_sections bytes) (reference_of bytes i r).target ∷ places)
    (going_each bytes i rs names (λ k d within. are (suc k) d (omega (arith, within))))

section_going : (bytes : List ℕ) (i : ℕ) → is_loaded bytes i ≡ true → name_fault bytes ≡ None
    → relocation_fault bytes ≡ None → places_of bytes i ≡ targets_of (loaded_sections bytes) (normal_section bytes i)
unfolding places_of normal_section references_of
section_going bytes i loaded names none =
    going_each bytes i (fields_of bytes i) names (all_right bytes i loaded none)

-- of all sections
one_more : (bytes : List ℕ) (i : ℕ) (loaded : Bool) (places : List (List (Option ℕ))) → is_loaded bytes i ≡ loaded
    → name_fault bytes ≡ None → relocation_fault bytes ≡ None
    → places ≡ map (targets_of (loaded_sections bytes)) (loaded_below bytes i) →
    places ++ cond loaded (places_of bytes i ∷ []) [] ≡ map (targets_of (loaded_sections bytes))
    (cond loaded (loaded_below bytes i ++ normal_section bytes i ∷ []) (loaded_below bytes i))
one_more bytes i true places loaded names none before =
    ap (λ xs. xs ++ places_of bytes i ∷ []) before
    ∙ ap (λ x. map (targets_of (loaded_sections bytes)) (loaded_below bytes i) ++ x ∷ [])
    (section_going bytes i loaded names none)
    ∙ sym (map-append (targets_of (loaded_sections bytes)) (loaded_below bytes i) (normal_section bytes i ∷ []))
one_more bytes i false places loaded names none before = append-nil places ∙ before

below_going : (bytes : List ℕ) (n : ℕ) → name_fault bytes ≡ None → relocation_fault bytes ≡ None
    → places_below bytes n ≡ map (targets_of (loaded_sections bytes)) (loaded_below bytes n)
below_going bytes zero names none = refl
below_going bytes (suc n) names none =
    one_more bytes n (is_loaded bytes n) (places_below bytes n) refl names none (below_going bytes n names none)

pub all_going : (bytes : List ℕ) → name_fault bytes ≡ None → relocation_fault bytes ≡ None
    → places_below bytes (section_count bytes) ≡ targets_in (loaded_sections bytes)
unfolding loaded_sections
all_going bytes names none = below_going bytes (section_count bytes) names none
