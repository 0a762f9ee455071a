-- Where loaded sections stand among all of them, where no two have one name.
use Rattle.std.proofs.Common.{◌≡◌, ℕ, zero, suc, ◌<◌, Bool, true, false, cond, List, [], ◌∷◌}
use Rattle.std.proofs.Common.{◌++◌, length, Some, None, refl, subst, ◌∙◌, inl, inr, arith}
use Rattle.std.proofs.lemmas.Bool.{cases_lt}
use Rattle.std.proofs.lemmas.Cmp.{nat_list_eq_equiv}
use Rattle.elf32_object.specs.Below.{first_of, first_below}
use Rattle.elf32_object.specs.Fields.{section_name, is_loaded}
use Rattle.elf32_object.specs.laws.BelowLaws.{none_first, none_below}
use Rattle.i386_reloc.specs.declared.types.NormalSection.{NormalSection}
use Rattle.i386_reloc.specs.Normal.{same_bytes, section_named, loaded_below, normal_section}
use Rattle.i386_reloc.specs.Places.{place_named}
use Rattle.i386_reloc.specs.Refused.{name_fault_at}
use Rattle.i386_reloc.specs.laws.PlaceLaws.{section_named_at}
use Rattle.i386_reloc.specs.laws.NameLaws.{unplaced, place_named_push}
use Rattle.i386_reloc.proofs.Places.{no_place}

-- one more section
section_named_push : (sections : List NormalSection) (section : NormalSection) (name : List ℕ)
    → section_named (sections ++ section ∷ []) name ≡ first_of (section_named sections name)
    (cond (same_bytes section.name name) (Some section) None)
section_named_push [] section name = refl
section_named_push (s ∷ sections) section name =
    elim (same_bytes s.name name) as (λ b. cond b (Some s) (section_named (sections ++ section ∷ []) name) ≡ first_of
    (cond b (Some s) (section_named sections name)) (cond (same_bytes section.name name) (Some section) None)) [
      | true ↦ refl
      | false ↦ section_named_push sections section name
    ]

-- a section's name has its place, and leads to it
abbrev pub IsAt : List NormalSection → List ℕ → ℕ → NormalSection → Type 0
IsAt sections name place section = (place_named sections name ≡ Some place)
    × (section_named sections name ≡ Some section)

stays_by : (bytes name : List ℕ) (n place : ℕ) (section : NormalSection) (b : Bool)
    → IsAt (loaded_below bytes n) name place section → IsAt
    (cond b (loaded_below bytes n ++ normal_section bytes n ∷ []) (loaded_below bytes n)) name place section
stays_by bytes name n place section true is = (
  place_named_push (loaded_below bytes n) (normal_section bytes n) name ∙ rw is.0 refl,
  section_named_push (loaded_below bytes n) (normal_section bytes n) name ∙ rw is.1 refl,
)
stays_by bytes name n place section false is = is

unnamed : (sections : List NormalSection) (name : List ℕ) → place_named sections name ≡ None
    → section_named sections name ≡ None
unnamed sections name none = section_named_at sections name ∙ rw none refl

is_at_end : (bytes : List ℕ) (j : ℕ) → is_loaded bytes j ≡ true → name_fault_at bytes j ≡ None
    → IsAt (loaded_below bytes j ++ normal_section bytes j ∷ []) (section_name bytes j) (length (loaded_below bytes j))
    (normal_section bytes j)
unfolding normal_section
is_at_end bytes j loaded none =
    let name = section_name bytes j in
    let free = no_place _ (unplaced bytes j loaded none) in (
      place_named_push (loaded_below bytes j) (normal_section bytes j) name
          ∙ rw (free, nat_list_eq_equiv.refl name) refl,
      section_named_push (loaded_below bytes j) (normal_section bytes j) name
          ∙ rw (unnamed (loaded_below bytes j) name free, nat_list_eq_equiv.refl name) refl,
    )

is_at_here : (bytes : List ℕ) (j : ℕ) (b : Bool) → is_loaded bytes j ≡ true → b ≡ true → name_fault_at bytes j ≡ None
    → IsAt (cond b (loaded_below bytes j ++ normal_section bytes j ∷ []) (loaded_below bytes j)) (section_name bytes j)
    (length (loaded_below bytes j)) (normal_section bytes j)
is_at_here bytes j true loaded yes_here none = is_at_end bytes j loaded none
is_at_here bytes j false loaded yes_here none = absurd cc

first_nones : (bytes : List ℕ) (n : ℕ) → first_below (name_fault_at bytes) (suc n) ≡ None
    → first_below (name_fault_at bytes) n ≡ None
first_nones bytes n none = none_first (first_below (name_fault_at bytes) n) (name_fault_at bytes n) none

pub is_at : (bytes : List ℕ) (j n : ℕ) → is_loaded bytes j ≡ true → j < n → first_below (name_fault_at bytes) n ≡ None
    → IsAt (loaded_below bytes n) (section_name bytes j) (length (loaded_below bytes j)) (normal_section bytes j)
is_at bytes j zero loaded within none = absurd (omega arith)
is_at bytes j (suc n) loaded within none =
    elim (cases_lt j n) [
      | inl lt ↦ stays_by bytes (section_name bytes j) n (length (loaded_below bytes j)) (normal_section bytes j)
          (is_loaded bytes n) (is_at bytes j n loaded lt (first_nones bytes n none))
      | inr le ↦
          let e : j ≡ n = omega arith in
          subst (λ (m : ℕ). IsAt (loaded_below bytes (suc m)) (section_name bytes j) (length (loaded_below bytes j))
          (normal_section bytes j)) e
          (is_at_here bytes j (is_loaded bytes j) loaded loaded
          (none_below (name_fault_at bytes) (suc n) none j within))
    ]
