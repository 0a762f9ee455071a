-- Section 0 is none, and the loaded sections one by one.
use Rattle.std.proofs.Common.{◌≡◌, ℕ, ◌+◌, ◌≤◌, true, false, List, [], ◌∷◌, ◌++◌}
use Rattle.std.proofs.Common.{length, refl, ap, ◌∙◌, inl, inr, arith, add-one}
use Rattle.std.proofs.lemmas.Bool.{cases_Bool}
use Rattle.elf32_object.specs.Fields.{is_section, is_loaded, has_no_bytes, section_header, section_bytes}
use Rattle.i386_reloc.specs.Normal.{loaded_below, normal_section}

not_loaded_0 : (bytes : List ℕ) → is_loaded bytes 0 ≡ false
unfolding is_loaded is_section
not_loaded_0 bytes = refl

pub not_loaded_null : (bytes : List ℕ) (i : ℕ) → i ≡ 0 → is_loaded bytes i ≡ false
not_loaded_null bytes i null = ap (is_loaded bytes) null ∙ not_loaded_0 bytes

pub loaded_below_more : (bytes : List ℕ) (i : ℕ) → is_loaded bytes i ≡ true
    → loaded_below bytes (i + 1) ≡ loaded_below bytes i ++ normal_section bytes i ∷ []
loaded_below_more bytes i loaded = rw (add-one, loaded) refl

pub loaded_below_same : (bytes : List ℕ) (i : ℕ) → is_loaded bytes i ≡ false
    → loaded_below bytes (i + 1) ≡ loaded_below bytes i
loaded_below_same bytes i unloaded = rw (add-one, unloaded) refl

no_bytes : (bytes : List ℕ) (i : ℕ) → has_no_bytes (section_header bytes i) ≡ true → section_bytes bytes i ≡ []
unfolding section_bytes
no_bytes bytes i none = rw none refl

-- a loaded section's bytes are few
pub few_bytes : (bytes : List ℕ) (i : ℕ) (here : List ℕ) (size : ℕ) → here ≡ section_bytes bytes i
    → (has_no_bytes (section_header bytes i) ≡ false → length here ≡ size) → size ≤ 8388608 → length here ≤ 8388608
few_bytes bytes i here size are whole small =
    elim (cases_Bool (has_no_bytes (section_header bytes i))) [
      | inl none ↦ let e = ap length are ∙ ap length (no_bytes bytes i none) in omega (arith, e)
      | inr stored ↦ omega (arith, whole stored)
    ]
