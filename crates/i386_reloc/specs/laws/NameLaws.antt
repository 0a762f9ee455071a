-- Laws of the names of an object's loaded sections, for the crates above: where nothing is wrong with the object they
-- are distinct, so the section of a section's name is this section.
use Rattle.std.proofs.Common.{◌≡◌, ℕ, suc, Bool, true, false, cond, List, [], ◌∷◌, ◌++◌, length, Option, Some, None}
use Rattle.std.proofs.Common.{option_map, ◌∙◌, ap, refl, zero, ◌&&◌, ◌||◌, is_some, sym, map, arith, All}
use Rattle.std.specs.List.{IsDistinct, AllByRecursion, list_any}
use Rattle.std.proofs.lemmas.Cmp.{nat_list_eq_equiv}
use Rattle.std.proofs.lemmas.List.{map-append}
use Rattle.std.proofs.lemmas.List.Elements.{All-cons, All-nil}
use Rattle.std.proofs.lemmas.Map.Keys.{IsDistinct-push}
use Rattle.ks_base.specs.declared.refusals.Refusal.{Refusal}
use Rattle.ks_base.specs.declared.refusals.Refusal.TheVariants as refusal
use Rattle.elf32_object.specs.Below.{first_of, any_below, first_below}
use Rattle.elf32_object.specs.Fields.{section_name, is_loaded, section_count}
use Rattle.elf32_object.specs.laws.BelowLaws.{both_none}
use Rattle.i386_reloc.specs.declared.types.NormalSection.{NormalSection}
use Rattle.i386_reloc.specs.Normal.{same_bytes, loaded_below, normal_section, is_name_twice, loaded_sections}
use Rattle.i386_reloc.specs.Normal.{section_named, name_of}
use Rattle.i386_reloc.specs.Places.{place_named}
use Rattle.i386_reloc.specs.Refused.{refused_where, name_fault_at, name_fault, normal_fault}

suc_of_first : (place : Option ℕ) (b : Bool) (n : ℕ)
    → option_map suc (first_of place (cond b (Some n) None)) ≡ first_of (option_map suc place)
    (cond b (Some (suc n)) None)
suc_of_first None true n = refl
suc_of_first None false n = refl
suc_of_first (Some place) b n = refl

-- the place of a name when one more section is listed
pub place_named_push : (sections : List NormalSection) (section : NormalSection) (name : List ℕ)
    → place_named (sections ++ section ∷ []) name ≡ first_of (place_named sections name)
    (cond (same_bytes section.name name) (Some (length sections)) None)
place_named_push [] section name = refl
place_named_push (s ∷ sections) section name =
    elim (same_bytes s.name name) as (λ b. cond b (Some 0)
    (option_map suc (place_named (sections ++ section ∷ []) name)) ≡ first_of
    (cond b (Some 0) (option_map suc (place_named sections name)))
    (cond (same_bytes section.name name) (Some (suc (length sections))) None)) [
      | true ↦ refl
      | false ↦ ap (option_map suc) (place_named_push sections section name)
          ∙ suc_of_first (place_named sections name) (same_bytes section.name name) (length sections)
    ]

-- nothing is refused where nothing is broken
pub not_refused : (broken : Bool) (why : Refusal) → refused_where broken why ≡ None → broken ≡ false
not_refused true why none = absurd cc
not_refused false why none = refl

-- whether an earlier loaded section has a name, which is whether the name has a place among them
or_false : (b : Bool) → b || false ≡ b
or_false true = refl
or_false false = refl

some_first : (place : Option ℕ) (b : Bool) (n : ℕ) → is_some place
    || b ≡ is_some (first_of place (cond b (Some n) None))
some_first None true n = refl
some_first None false n = refl
some_first (Some place) b n = refl

named_more : (bytes name : List ℕ) (i : ℕ) (loaded : Bool)
    → any_below (λ k. is_loaded bytes k && same_bytes (section_name bytes k) name) i ≡ is_some
    (place_named (loaded_below bytes i) name) → any_below
    (λ k. is_loaded bytes k && same_bytes (section_name bytes k) name) i
    || (loaded && same_bytes (section_name bytes i) name) ≡ is_some
    (place_named (cond loaded (loaded_below bytes i ++ normal_section bytes i ∷ []) (loaded_below bytes i)) name)
unfolding normal_section
named_more bytes name i true before =
    ap (λ b. b || same_bytes (section_name bytes i) name) before
    ∙ some_first (place_named (loaded_below bytes i) name) (same_bytes (section_name bytes i) name)
    (length (loaded_below bytes i))
    ∙ sym (ap is_some (place_named_push (loaded_below bytes i) (normal_section bytes i) name))
named_more bytes name i false before = or_false _ ∙ before

pub named_before : (bytes name : List ℕ) (i : ℕ) → any_below
    (λ k. is_loaded bytes k && same_bytes (section_name bytes k) name) i ≡ is_some
    (place_named (loaded_below bytes i) name)
named_before bytes name zero = refl
named_before bytes name (suc i) = named_more bytes name i (is_loaded bytes i) (named_before bytes name i)

-- a loaded section is refused where its name has a place among those before it
pub name_fault_loaded : (bytes : List ℕ) (i : ℕ) → is_loaded bytes i ≡ true
    → name_fault_at bytes i ≡ refused_where (is_some (place_named (loaded_below bytes i) (section_name bytes i)))
    (refusal.DoubleName (section_name bytes i))
unfolding name_fault_at is_name_twice
name_fault_loaded bytes i loaded =
    rw loaded (ap (λ b. refused_where b (refusal.DoubleName (section_name bytes i)))
    (named_before bytes (section_name bytes i) i))

-- where there is no fault, the name of each loaded section has no place before it
pub unplaced : (bytes : List ℕ) (i : ℕ) → is_loaded bytes i ≡ true → name_fault_at bytes i ≡ None
    → is_some (place_named (loaded_below bytes i) (section_name bytes i)) ≡ false
unplaced bytes i loaded none = not_refused _ _ (sym (name_fault_loaded bytes i loaded) ∙ none)

some_map : (place : Option ℕ) → is_some (option_map suc place) ≡ is_some place
some_map None = refl
some_map (Some x) = refl

named_among : (name : List ℕ) (sections : List NormalSection)
    → list_any (same_bytes name) (map name_of sections) ≡ is_some (place_named sections name)
named_among name [] = refl
named_among name (section ∷ sections) =
    rw (nat_list_eq_equiv.symm name section.name)
    (elim (same_bytes section.name name) as (λ b. b || list_any (same_bytes name) (map name_of sections) ≡ is_some
    (cond b (Some 0) (option_map suc (place_named sections name)))) [
      | true ↦ refl
      | false ↦ named_among name sections ∙ sym (some_map (place_named sections name))
    ])

distinct_more : (bytes : List ℕ) (i : ℕ) (b : Bool) → is_loaded bytes i ≡ b → name_fault_at bytes i ≡ None
    → IsDistinct same_bytes (map name_of (loaded_below bytes i))
    → IsDistinct same_bytes (map name_of
    (cond b (loaded_below bytes i ++ normal_section bytes i ∷ []) (loaded_below bytes i)))
unfolding normal_section
distinct_more bytes i true loaded none before =
    rw (map-append name_of (loaded_below bytes i) (normal_section bytes i ∷ []))
    (IsDistinct-push nat_list_eq_equiv (map name_of (loaded_below bytes i)) (section_name bytes i) before
    (named_among (section_name bytes i) (loaded_below bytes i) ∙ unplaced bytes i loaded none))
distinct_more bytes i false loaded none before = before

distinct_below : (bytes : List ℕ) (n : ℕ) → first_below (name_fault_at bytes) n ≡ None
    → IsDistinct same_bytes (map name_of (loaded_below bytes n))
unfolding IsDistinct
distinct_below bytes zero none = tt
distinct_below bytes (suc n) none =
    let nones = both_none (first_below (name_fault_at bytes) n) (name_fault_at bytes n) none in
    distinct_more bytes n (is_loaded bytes n) refl nones.1 (distinct_below bytes n nones.0)

-- no two loaded sections have one name
pub distinct_names : (bytes : List ℕ) → normal_fault bytes ≡ None
    → IsDistinct same_bytes (map name_of (loaded_sections bytes))
unfolding normal_fault name_fault loaded_sections
distinct_names bytes none = distinct_below bytes (section_count bytes) (both_none _ _ none).0

-- In a list of distinct names the section of a section's name is this section.
apart : (name : List ℕ) (sections : List NormalSection)
    → AllByRecursion (λ other. same_bytes name other ≡ false) (map name_of sections)
    → All (λ section. same_bytes name section.name ≡ false) sections
apart name [] others = All-nil (λ section. same_bytes name section.name ≡ false)
apart name (section ∷ sections) others = All-cons (λ section. same_bytes name section.name ≡ false) section sections
    others.0 (apart name sections others.1)

named_by_itself : (sections : List NormalSection) → IsDistinct same_bytes (map name_of sections)
    → All (λ section. section_named sections section.name ≡ Some section) sections
unfolding IsDistinct
named_by_itself [] distinct = λ k d within. absurd (omega arith)
named_by_itself (section ∷ sections) distinct =
    All-cons (λ s. section_named (section ∷ sections) s.name ≡ Some s) section sections
    (rw (nat_list_eq_equiv.refl section.name) refl)
    (λ k d within. rw (apart section.name sections distinct.0 k d within)
    (named_by_itself sections distinct.1 k d within))

-- the section that is found by a loaded section's name is this section
pub all_named : (bytes : List ℕ) → normal_fault bytes ≡ None
    → All (λ section. section_named (loaded_sections bytes) section.name ≡ Some section) (loaded_sections bytes)
all_named bytes none = named_by_itself (loaded_sections bytes) (distinct_names bytes none)
