-- The places of names in a list of sections.
use Rattle.std.proofs.Common.{◌≡◌, ℕ, ◌+◌, Bool, true, false, cond, List, [], ◌∷◌, ◌++◌, length, Option}
use Rattle.std.proofs.Common.{Some, None, is_some, option_map, sym, ◌∙◌, ap, refl, arith, length-append}
use Rattle.std.specs.Ordering.{nat_cmp, is_eq}
use Rattle.std.specs.Cmp.Lexicographic.{slice_cmp, bytes_decides, texts_ties}
use denote.Ref.{Bor}
use Rattle.std.specs.BTreeMap.{BTreeMap, btree_map_len}
use Rattle.elf32_object.specs.Below.{first_of}
use Rattle.i386_reloc.specs.declared.types.NormalSection.{NormalSection}
use Rattle.i386_reloc.specs.declared.types.Ref.{Ref}
use Rattle.std.specs.List.{slice_get}
use Rattle.std.proofs.lemmas.Option.{slice_get-map}
use Rattle.i386_reloc.specs.Normal.{same_bytes}
use Rattle.i386_reloc.specs.Places.{place_named, place_of_target, reference_in, reference_at, place_of_reference}
use Rattle.i386_reloc.specs.inside.NamePlaces.{named, HasPlaces}
use Rattle.i386_reloc.specs.inside.Targets.{targets_of, targets_in}
use Rattle.i386_reloc.specs.laws.NameLaws.{place_named_push}

-- a map from names to places, with one more name
first_of_none : (o : Option ℕ) → first_of o None ≡ o
first_of_none None = refl
first_of_none (Some x) = refl

pub no_place : (o : Option ℕ) → is_some o ≡ false → o ≡ None
no_place None none = refl
no_place (Some x) none = absurd cc

one_more_place : (sections : List NormalSection) (section : NormalSection) (q : List ℕ) (b : Bool)
    → (b ≡ true → place_named sections q ≡ None) → cond b (Some (length sections)) (place_named sections q) ≡ first_of
    (place_named sections q) (cond b (Some (length sections)) None)
one_more_place sections section q true none = rw (none refl) refl
one_more_place sections section q false none = sym (first_of_none (place_named sections q))

pub has_places_push : (sections : List NormalSection) (section : NormalSection)
    (before after : BTreeMap (Bor (List ℕ)) ℕ) → HasPlaces sections before → named before section.name ≡ None
    → btree_map_len after ≡ btree_map_len before + 1 →
    ((q : List ℕ) → named after q ≡ cond (same_bytes section.name q) (Some (btree_map_len before)) (named before q)) →
    HasPlaces (sections ++ section ∷ []) after
has_places_push sections section before after has none len each =
    record {
      len = omega (arith, len, has.len, length-append sections (section ∷ []));
      each = λ q.
          each q
          ∙ rw (has.len, has.each q)
          (one_more_place sections section q (same_bytes section.name q)
          (λ same. let e : q ≡ section.name = sym ((bytes_decides section.name q).0 same) in
          rw e (sym (has.each section.name) ∙ none)))
          ∙ sym (place_named_push sections section q);
    }

-- keys of a map are equal as names are
pub equal_keys : (xs ys : List ℕ) → is_eq (slice_cmp nat_cmp xs ys) ≡ same_bytes xs ys
equal_keys xs ys = sym (texts_ties xs ys)

-- the place of a reference's target, from the table of all
abbrev pub joined : Option (Option ℕ) → Option ℕ
joined None = None
joined (Some place) = place

abbrev pub place_in_row : Option (List (Option ℕ)) → ℕ → Option ℕ
place_in_row None k = None
place_in_row (Some row) k = joined (slice_get row k)

of_reference : (sections : List NormalSection) (r : Option Ref)
    → joined (option_map (λ r. place_of_target sections r.target) r) ≡ place_of_reference sections r
of_reference sections None = refl
of_reference sections (Some r) = refl

of_section : (sections : List NormalSection) (section : Option NormalSection) (k : ℕ)
    → place_in_row (option_map (targets_of sections) section) k ≡ place_of_reference sections (reference_in section k)
of_section sections None k = refl
of_section sections (Some section) k =
    ap joined (slice_get-map (λ (r : Ref). place_of_target sections r.target) section.refs k)
    ∙ of_reference sections (slice_get section.refs k)

pub target_at : (sections : List NormalSection) (i k : ℕ)
    → place_in_row (slice_get (targets_in sections) i) k ≡ place_of_reference sections (reference_at sections i k)
target_at sections i k =
    ap (λ row. place_in_row row k) (slice_get-map (targets_of sections) sections i)
    ∙ of_section sections (slice_get sections i) k
