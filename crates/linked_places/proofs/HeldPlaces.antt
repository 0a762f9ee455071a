-- Where sections are placed: each behind those of its region before it.
use Rattle.std.proofs.Common.{◌≡◌, ◌≢◌, ℕ, ◌+◌, ◌<◌, ◌≤◌, Bool, true, false, cond, List, [], ◌∷◌, length, map}
use Rattle.std.proofs.Common.{refl, sym, ap, subst, ◌∙◌, arith, inl, inr, Some}
use Rattle.std.specs.List.{filter, flat_map, fold, zip}
use Rattle.std.specs.Cmp.Lexicographic.{bytes_decides}
use Rattle.std.proofs.lemmas.Bool.{false_from_ne_true}
use Rattle.image_memory.specs.declared.types.Kind.{Kind}
use Rattle.image_memory.specs.declared.types.Kind.TheVariants.{Code, ReadOnly, Writable}
use Rattle.i386_reloc.specs.declared.types.NormalSection.{NormalSection}
use Rattle.i386_reloc.specs.Normal.{same_bytes}
use Rattle.link_post.specs.declared.types.Placed.{Placed}
use Rattle.link_post.specs.Values.{ValueList}
use Rattle.link_post.specs.Linked.{linked}
use Rattle.link_post.specs.Places.{base_in, round_up}
use Rattle.image_link.specs.Regions.{boundary, kind_of, unit_of}
use Rattle.image_link.specs.Places.{Ends, Laid, at_places, behind, end_in, ends_after, laid_from, next_base, next_place}
use Rattle.image_link.specs.Places.{places_from, with_end}
use Rattle.image_link.specs.Linked.{filled_in, filled_part, goes_to_region, same_kind}
use Rattle.linked_places.proofs.HeldLists.{Pairs}
use Rattle.linked_places.proofs.Members.{Has, has_filter, has_map}
use Rattle.linked_places.proofs.HeldRegions.{Stacked, stacked_append}

-- ---- kinds
kinds_same : (a b : Kind) → same_kind a b ≡ true → b ≡ a
kinds_same Code Code is = refl
kinds_same Code ReadOnly is = absurd cc
kinds_same Code Writable is = absurd cc
kinds_same ReadOnly Code is = absurd cc
kinds_same ReadOnly ReadOnly is = refl
kinds_same ReadOnly Writable is = absurd cc
kinds_same Writable Code is = absurd cc
kinds_same Writable ReadOnly is = absurd cc
kinds_same Writable Writable is = refl

pub kind_itself : (kind : Kind) → same_kind kind kind ≡ true
kind_itself Code = refl
kind_itself ReadOnly = refl
kind_itself Writable = refl

end_here : (ends : Ends) (kind : Kind) (end : ℕ) → end_in (with_end ends kind end) kind ≡ end
end_here ends Code end = refl
end_here ends ReadOnly end = refl
end_here ends Writable end = refl

end_elsewhere : (ends : Ends) (kind other : Kind) (end : ℕ) → same_kind kind other ≡ false
    → end_in (with_end ends other end) kind ≡ end_in ends kind
end_elsewhere ends Code Code end is = absurd cc
end_elsewhere ends Code ReadOnly end is = refl
end_elsewhere ends Code Writable end is = refl
end_elsewhere ends ReadOnly Code end is = refl
end_elsewhere ends ReadOnly ReadOnly end is = absurd cc
end_elsewhere ends ReadOnly Writable end is = refl
end_elsewhere ends Writable Code end is = refl
end_elsewhere ends Writable ReadOnly end is = refl
end_elsewhere ends Writable Writable end is = absurd cc

-- ---- a place is at or behind the end so far
rounds_up : (address unit : ℕ) → 0 < unit → address ≤ round_up address unit
rounds_up address unit more = omega arith

has_unit : (kind : Kind) → 0 < unit_of kind
has_unit Code = omega arith
has_unit ReadOnly = omega arith
has_unit Writable = omega arith

has_boundary : (section : NormalSection) → 0 < boundary section
has_boundary section = let some = has_unit (kind_of section) in omega (arith, some)

place_above : (ends : Ends) (section : NormalSection) → end_in ends (kind_of section) ≤ next_base ends section
place_above ends section = rounds_up (end_in ends (kind_of section)) (boundary section) (has_boundary section)

-- ---- the sections of one object in a region
module _ (kind : Kind) (values : ValueList) where
  abbrev HasLength : Laid → NormalSection → Type 0
  HasLength laid section = length (linked laid.object laid.places values section.name) ≡ section.size

  module _ (laid : Laid) where
    next_stacked : (ends : Ends) (high : ℕ) (section : NormalSection) (rest : List (NormalSection × Placed)) (b : Bool)
        → same_kind kind (kind_of section) ≡ b → HasLength laid section
        → Stacked (end_in (behind ends section) kind) high (map (filled_part laid values) rest)
        → Stacked (end_in ends kind) high
        (map (filled_part laid values) (cond b ((section, next_place ends section) ∷ rest) rest))
    next_stacked ends high section rest true is long up =
        let own : kind_of section ≡ kind = kinds_same kind (kind_of section) is in
        let above : end_in ends kind ≤ next_base ends section =
        subst (λ k. end_in ends k ≤ next_base ends section) own (place_above ends section) in
        let ends_at : end_in (behind ends section) kind ≡ next_base ends section + section.size =
        subst (λ k. end_in (with_end ends (kind_of section) (next_base ends section + section.size)) k
        ≡ next_base ends section + section.size) own
        (end_here ends (kind_of section) (next_base ends section + section.size)) in (
          above,
          subst (λ n. Stacked n high (map (filled_part laid values) rest))
              (ends_at ∙ ap (λ n. next_base ends section + n) (sym long)) up,
        )
    next_stacked ends high section rest false is long up =
        subst (λ n. Stacked n high (map (filled_part laid values) rest))
        (end_elsewhere ends kind (kind_of section) (next_base ends section + section.size) is) up

    object_stacked : (ends : Ends) (sections : List NormalSection)
        → ((s : NormalSection) → Has sections s → HasLength laid s)
        → Stacked (end_in ends kind) (end_in (fold behind ends sections) kind)
        (map (filled_part laid values) (filter (goes_to_region kind) (zip sections (places_from ends sections))))
    unfolding places_from
    object_stacked ends [] long = omega arith
    object_stacked ends (section ∷ sections) long =
        next_stacked ends (end_in (fold behind (behind ends section) sections) kind) section
        (filter (goes_to_region kind) (zip sections (places_from (behind ends section) sections)))
        (same_kind kind (kind_of section)) refl (long section (inl refl))
        (object_stacked (behind ends section) sections (λ s has. long s (inr has)))

  -- ---- all objects
  pub all_stacked : (ends : Ends) (objects : List (List NormalSection))
      → ((laid : Laid) → Has (laid_from ends objects) laid → (s : NormalSection) → Has laid.object s → HasLength laid s)
      → Stacked (end_in ends kind) (end_in (fold ends_after ends objects) kind)
      (flat_map (filled_in kind values) (laid_from ends objects))
  unfolding laid_from
  all_stacked ends [] long = omega arith
  all_stacked ends (object ∷ objects) long =
      let laid : Laid = record { object = object; places = places_from ends object } in
      stacked_append (end_in ends kind) (end_in (ends_after ends object) kind)
      (end_in (fold ends_after (ends_after ends object) objects) kind)
      (filled_in kind values laid) (flat_map (filled_in kind values) (laid_from (ends_after ends object) objects))
      (object_stacked laid ends object (long laid (inl refl)))
      (all_stacked (ends_after ends object) objects (λ other has. long other (inr has)))

-- ---- where an object among them was placed
pub record IsLaid (objects : List (List NormalSection)) (laid : Laid) : Type 0 where
  pub ends : Ends
  pub has : Has objects laid.object
  pub places : laid.places ≡ places_from ends laid.object

is_laid_later : (object : List NormalSection) (objects : List (List NormalSection)) (laid : Laid) → IsLaid objects laid
    → IsLaid (object ∷ objects) laid
is_laid_later object objects laid is = record { ends = is.ends; has = inr is.has; places = is.places }

pub is_laid : (ends : Ends) (objects : List (List NormalSection)) (laid : Laid) → Has (laid_from ends objects) laid
    → IsLaid objects laid
unfolding laid_from
is_laid ends [] laid has = absurd has
is_laid ends (object ∷ objects) laid (inl is) =
    subst (λ l. IsLaid (object ∷ objects) l) is (record { ends = ends; has = inl refl; places = refl })
is_laid ends (object ∷ objects) laid (inr rest) =
    is_laid_later object objects laid (is_laid (ends_after ends object) objects laid rest)

-- ---- where a section of an object was placed
pub record IsAt (sections : List NormalSection) (places : List Placed) (section : NormalSection) : Type 0 where
  pub base : ℕ
  pub found : base_in places section.name ≡ Some base
  pub part : Has (zip sections places) (section, record { section = section.name; base = base })

named_itself : (name : List ℕ) → same_bytes name name ≡ true
named_itself name = (bytes_decides name name).1 refl

named_apart : (a b : List ℕ) → a ≢ b → same_bytes a b ≡ false
named_apart a b apart = false_from_ne_true (same_bytes a b) (λ same. apart ((bytes_decides a b).0 same))

first_at : (ends : Ends) (section : NormalSection) (sections : List NormalSection)
    → IsAt (section ∷ sections) (places_from ends (section ∷ sections)) section
unfolding places_from
first_at ends section sections =
    record {
      base = next_base ends section;
      found = rw (named_itself section.name) refl;
      part = inl refl;
    }

later_at : (ends : Ends) (first section : NormalSection) (sections : List NormalSection) → first.name ≢ section.name
    → IsAt sections (places_from (behind ends first) sections) section
    → IsAt (first ∷ sections) (places_from ends (first ∷ sections)) section
unfolding places_from
later_at ends first section sections apart at =
    record {
      base = at.base;
      found = rw (named_apart first.name section.name apart) at.found;
      part = inr at.part;
    }

pub is_at : (ends : Ends) (sections : List NormalSection) (section : NormalSection)
    → Pairs (λ (a b : NormalSection). a.name ≢ b.name) sections → Has sections section
    → IsAt sections (places_from ends sections) section
is_at ends [] section differ has = absurd has
is_at ends (first ∷ sections) section differ (inl is) =
    subst (λ s. IsAt (first ∷ sections) (places_from ends (first ∷ sections)) s) is (first_at ends first sections)
is_at ends (first ∷ sections) section differ (inr rest) =
    later_at ends first section sections (differ.0 section rest)
    (is_at (behind ends first) sections section differ.1 rest)

-- it is among what stands in its region
pub part_in : (values : ValueList) (laid : Laid) (section : NormalSection) (at : IsAt laid.object laid.places section)
    → Has (filled_in (kind_of section) values laid)
    (filled_part laid values (section, record { section = section.name; base = at.base }))
part_in values laid section at =
    has_map (filled_part laid values) (filter (goes_to_region (kind_of section)) (at_places laid))
    (section, record { section = section.name; base = at.base })
    (has_filter (goes_to_region (kind_of section)) (at_places laid)
    (section, record { section = section.name; base = at.base }) at.part (kind_itself (kind_of section)))
