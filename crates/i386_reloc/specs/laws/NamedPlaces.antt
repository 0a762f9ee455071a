-- Laws of the places of names: at a name's place stands a section of this name.
use Rattle.std.specs.Prelude.{◌≡◌, ◌⊎◌, ℕ, suc, List, [], ◌∷◌, Option, Some, None, option_map, refl}
use Rattle.std.specs.List.{slice_get}
use Rattle.std.specs.Cmp.Lexicographic.{bytes_decides}
use Rattle.std.proofs.Common.{inl, inr, sym, ◌∙◌}
use Rattle.std.proofs.lemmas.Bool.{cases_Bool}
use Rattle.std.proofs.lemmas.Option.{same_Some}
use Rattle.i386_reloc.specs.declared.types.NormalSection.{NormalSection}
use Rattle.i386_reloc.specs.Normal.{same_bytes, section_named}
use Rattle.i386_reloc.specs.Places.{place_named}
use Rattle.i386_reloc.specs.laws.PlaceLaws.{section_named_at}

option_cases : {X : Type 0} (o : Option X) → (o ≡ None) ⊎ ((x : X) × (o ≡ Some x))
option_cases None = inl refl
option_cases (Some x) = inr (x, refl)

place_later : (o : Option ℕ) (i : ℕ) → option_map suc o ≡ Some i → (j : ℕ) × (o ≡ Some j) × (i ≡ suc j)
place_later None i at = absurd cc
place_later (Some j) i at = (j, refl, sym (same_Some (suc j) i at))

pub section_at_place : (sections : List NormalSection) (name : List ℕ) (i : ℕ) → place_named sections name ≡ Some i
    → (s : NormalSection) × (slice_get sections i ≡ Some s) × (s.name ≡ name)
section_at_place [] name i at = absurd cc
section_at_place (x ∷ xs) name i at =
    elim (cases_Bool (same_bytes x.name name)) [
      | inl same ↦ let first : Some 0 ≡ Some i = rw same at at in let e : 0 ≡ i = same_Some 0 i first in
          rw (← e) (x, refl, (bytes_decides x.name name).0 same)
      | inr apart ↦
          let later : option_map suc (place_named xs name) ≡ Some i = rw apart at at in
          let (j, at_j, e) = place_later (place_named xs name) i later in rw e (section_at_place xs name j at_j)
    ]

-- and where a name is found
pub section_found : (sections : List NormalSection) (name : List ℕ) (s : NormalSection)
    → section_named sections name ≡ Some s → (i : ℕ) × (slice_get sections i ≡ Some s) × (s.name ≡ name)
section_found sections name s found =
    elim (option_cases (place_named sections name)) [
      | inl none ↦ absurd (let e : None ≡ Some s = sym (section_named_at sections name ∙ rw none refl) ∙ found in cc)
      | inr it ↦
          let (t, at, same) = section_at_place sections name it.0 it.1 in
          let e : Some t ≡ Some s = sym at ∙ sym (section_named_at sections name ∙ rw it.1 refl) ∙ found in
          (it.0, at ∙ e, rw (← same_Some t s e) same)
    ]
