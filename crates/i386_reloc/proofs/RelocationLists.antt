-- Where a relocation stands in the list of a section's relocations.
use Rattle.std.proofs.Common.{◌≡◌, ℕ, zero, suc, ◌+◌, ◌<◌, nat_lt, Bool, true, false, ◌&&◌}
use Rattle.std.proofs.Common.{if◌then◌else◌, List, [], ◌∷◌, ◌++◌, length, get_or, take}
use Rattle.std.proofs.Common.{refl, sym, ap, subst, ◌∙◌, inl, inr, arith, length-append}
use Rattle.std.proofs.lemmas.List.{get_or_append_left, get_or-append-add, take_more}
use Rattle.std.proofs.lemmas.Bool.{cases_lt, ltb-true}
use Rattle.elf32_object.specs.declared.types.Reloc.{Reloc}
use Rattle.elf32_object.specs.Below.{sum_below, each_below, all_below}
use Rattle.elf32_object.specs.Fields.{section_count, is_section, patches_loaded, entry_count}
use Rattle.elf32_object.specs.Fields.{changes, relocation, relocations_below, IsRelocation}
use Rattle.i386_reloc.specs.References.{relocations_of}
use Rattle.elf32_object.specs.laws.BelowLaws.{length-each_below, get_or-each_below}

abbrev entries_of : List ℕ → ℕ → ℕ → List Reloc
entries_of bytes i j = if changes bytes i j then each_below (relocation bytes j) (entry_count bytes j) else []

chosen_length : (b : Bool) (f : ℕ → Reloc) (n : ℕ) → length (if b then each_below f n else []) ≡ (if b then n else 0)
chosen_length true f n = length-each_below f n
chosen_length false f n = refl

length-entries : (bytes : List ℕ) (i n : ℕ) → length (all_below (entries_of bytes i) n) ≡ relocations_below bytes i n
unfolding relocations_below
length-entries bytes i zero = refl
length-entries bytes i (suc n) =
    length-append (all_below (entries_of bytes i) n) (entries_of bytes i n)
    ∙ ap (λ m. m + length (entries_of bytes i n)) (length-entries bytes i n)
    ∙ ap (λ m. sum_below (λ j. if changes bytes i j then entry_count bytes j else 0) n + m)
    (chosen_length (changes bytes i n) (relocation bytes n) (entry_count bytes n))

-- an entry of the last section
last_entry : (bytes : List ℕ) (i n index k : ℕ) (d : Reloc) → changes bytes i n ≡ true → index < entry_count bytes n
    → k ≡ relocations_below bytes i n + index
    → (k < length (all_below (entries_of bytes i) (suc n)))
    × (get_or (all_below (entries_of bytes i) (suc n)) k d ≡ relocation bytes n index)
last_entry bytes i n index k d of_section within number =
    let before : List Reloc = all_below (entries_of bytes i) n in
    let entries : entries_of bytes i n ≡ each_below (relocation bytes n) (entry_count bytes n) = rw of_section refl in
    let at : k ≡ length before + index = omega (arith, length-entries bytes i n, number) in (
      omega (
        arith,
        at,
        length-append before (entries_of bytes i n),
        ap length entries,
        length-each_below
            (relocation bytes n) (entry_count bytes n),
      ),
      ap (λ m. get_or (before ++ entries_of bytes i n) m d) at
          ∙ get_or-append-add before (entries_of bytes i n) index d
          ∙ ap (λ xs. get_or xs index d) entries
          ∙ get_or-each_below (relocation bytes n) (entry_count bytes n) index d within,
    )

entry_in : (bytes : List ℕ) (i n k : ℕ) (r d : Reloc) → r.from < n → IsRelocation bytes i k r
    → (k < length (all_below (entries_of bytes i) n)) × (get_or (all_below (entries_of bytes i) n) k d ≡ r)
entry_in bytes i zero k r d below is = absurd (omega arith)
entry_in bytes i (suc n) k r d below is =
    elim (cases_lt r.from n) [
      | inl lt ↦
          let earlier = entry_in bytes i n k r d lt is in (
            omega (arith, earlier.0, length-append (all_below (entries_of bytes i) n) (entries_of bytes i n)),
            get_or_append_left (all_below (entries_of bytes i) n) (entries_of bytes i n) d k earlier.0 ∙ earlier.1,
          )
      | inr le ↦
          let same : r.from ≡ n = omega arith in
          let last = last_entry bytes i r.from r.index k d is.of_section is.in_range is.number in
          subst (λ (m : ℕ). (k < length (all_below (entries_of bytes i) (suc m)))
          × (get_or (all_below (entries_of bytes i) (suc m)) k d ≡ r)) same
          (last.0, last.1 ∙ sym is.entry)
    ]

and_left : (a b : Bool) → a && b ≡ true → a ≡ true
and_left true b both = refl
and_left false b both = both

and_right : (a b : Bool) → a && b ≡ true → b ≡ true
and_right true b both = both
and_right false b both = absurd cc

changes_within : (bytes : List ℕ) (i j : ℕ) → changes bytes i j ≡ true → j < section_count bytes
unfolding changes patches_loaded is_section
changes_within bytes i j changed =
    ltb-true j (section_count bytes) (and_right (nat_lt 0 j) _ (and_left _ _ (and_left _ _ (and_left _ _ changed))))

pub length-relocations : (bytes : List ℕ) (i : ℕ) → length (relocations_of bytes i) ≡ relocations_below bytes i
    (section_count bytes)
unfolding relocations_of
length-relocations bytes i = length-entries bytes i (section_count bytes)

-- relocation k of a section is element k of the list
pub relocation_is : (bytes : List ℕ) (i k : ℕ) (r d : Reloc) → IsRelocation bytes i k r
    → get_or (relocations_of bytes i) k d ≡ r
unfolding relocations_of
relocation_is bytes i k r d is =
    (entry_in bytes i (section_count bytes) k r d (changes_within bytes i r.from is.of_section) is).1

pub take_relocation : (bytes : List ℕ) (i k : ℕ) (r : Reloc) (list : List Reloc)
    → list ≡ take k (relocations_of bytes i) → k < relocations_below bytes i (section_count bytes)
    → IsRelocation bytes i k r → list ++ r ∷ [] ≡ take (k + 1) (relocations_of bytes i)
take_relocation bytes i k r list before within is =
    ap (λ xs. xs ++ r ∷ []) before
    ∙ ap (λ x. take k (relocations_of bytes i) ++ x ∷ []) (sym (relocation_is bytes i k r r is))
    ∙ sym (take_more (relocations_of bytes i) k r (omega (arith, length-relocations bytes i)))
