-- What is known of the relocations that change a field, where nothing is wrong with an object.
use Rattle.std.proofs.Common.{◌≡◌, ℕ, zero, suc, ◌<◌, Bool, true, false, ◌&&◌}
use Rattle.std.proofs.Common.{List, [], ◌∷◌, None, refl, inl, inr, arith, All}
use Rattle.std.specs.List.{filter}
use Rattle.std.proofs.lemmas.Bool.{cases_lt}
use Rattle.std.proofs.lemmas.List.Elements.{All-nil, All-append, All-filter, All-weaker, filter_passes}
use Rattle.elf32_object.specs.declared.types.Reloc.{Reloc}
use Rattle.elf32_object.specs.Below.{all_below}
use Rattle.elf32_object.specs.Fields.{section_count, section_header, is_loaded}
use Rattle.elf32_object.specs.Rules.{has_field}
use Rattle.elf32_object.specs.laws.BelowLaws.{none_below}
use Rattle.i386_reloc.specs.Classes.{is_strings}
use Rattle.i386_reloc.specs.References.{changes_at, by_offset, relocations_of, fields_of}
use Rattle.i386_reloc.specs.Refused.{relocation_fault_of, relocation_fault_at, relocation_fault}
use Rattle.i386_reloc.specs.inside.Fields.{IsRight}
use Rattle.i386_reloc.proofs.KnownSections.{unloaded_beyond}
use Rattle.i386_reloc.proofs.RelocationFaults.{among_none, is_right, no_strings}

pub loaded_within : (bytes : List ℕ) (j : ℕ) → is_loaded bytes j ≡ true → j < section_count bytes
loaded_within bytes j loaded =
    elim (cases_lt j (section_count bytes)) [
      | inl lt ↦ lt
      | inr le ↦ let unloaded = unloaded_beyond bytes j le in absurd cc
    ]

-- nothing is wrong with any relocation of a loaded section
fault_here : (bytes : List ℕ) (i : ℕ) → is_loaded bytes i ≡ true → relocation_fault bytes ≡ None
    → All (λ r. relocation_fault_of bytes i r ≡ None) (relocations_of bytes i)
unfolding relocation_fault relocation_fault_at
fault_here bytes i loaded none =
    let here = none_below (relocation_fault_at bytes) (section_count bytes) none i (loaded_within bytes i loaded) in
    among_none (relocation_fault_of bytes i) (relocations_of bytes i) (rw loaded at here)

-- what holds of each relocation with a field holds of the fields
and_left : (a b : Bool) → a && b ≡ true → a ≡ true
and_left true b both = refl
and_left false b both = both

all_at : (P : Reloc → Type 0) (relocations : List Reloc) (n : ℕ) → All (λ r. has_field r ≡ true → P r) relocations
    → All P (all_below (λ offset. filter (changes_at offset) relocations) n)
all_at P relocations zero all = All-nil P
all_at P relocations (suc n) all =
    All-append P (all_below (λ offset. filter (changes_at offset) relocations) n) (filter (changes_at n) relocations)
    (all_at P relocations n all)
    (λ k d within. All-filter (changes_at n) (λ r. has_field r ≡ true → P r) relocations all k d within
    (and_left _ _ (filter_passes (changes_at n) relocations k d within)))

all_fields : (P : Reloc → Type 0) (bytes : List ℕ) (i : ℕ)
    → All (λ r. has_field r ≡ true → P r) (relocations_of bytes i) → All P (fields_of bytes i)
unfolding fields_of by_offset
all_fields P bytes i all = all_at P (relocations_of bytes i) (section_header bytes i).size all

pub all_right : (bytes : List ℕ) (i : ℕ) → is_loaded bytes i ≡ true → relocation_fault bytes ≡ None
    → All (IsRight bytes i) (fields_of bytes i)
all_right bytes i loaded none =
    all_fields (IsRight bytes i) bytes i
    (All-weaker (λ r. relocation_fault_of bytes i r ≡ None) (λ r. has_field r ≡ true → IsRight bytes i r)
    (λ r right has. is_right bytes i r has right) (relocations_of bytes i) (fault_here bytes i loaded none))

-- a section of texts has no fields
nothing_in : (bytes : List ℕ) (i : ℕ) (rs : List Reloc) → is_strings bytes i ≡ true
    → All (λ r. is_strings bytes i ≡ false) rs → rs ≡ []
nothing_in bytes i [] texts none = refl
nothing_in bytes i (r ∷ rs) texts none = let apart = none 0 r (omega arith) in absurd cc

pub strings_loaded : (bytes : List ℕ) (i : ℕ) → is_strings bytes i ≡ true → is_loaded bytes i ≡ true
unfolding is_strings
strings_loaded bytes i texts = and_left (is_loaded bytes i) _ texts

pub no_fields : (bytes : List ℕ) (i : ℕ) → is_strings bytes i ≡ true → relocation_fault bytes ≡ None
    → fields_of bytes i ≡ []
no_fields bytes i texts none =
    nothing_in bytes i (fields_of bytes i) texts
    (all_fields (λ r. is_strings bytes i ≡ false) bytes i
    (All-weaker (λ r. relocation_fault_of bytes i r ≡ None) (λ r. has_field r ≡ true → is_strings bytes i ≡ false)
    (λ r right has. no_strings bytes i r has right) (relocations_of bytes i)
    (fault_here bytes i (strings_loaded bytes i texts) none)))
