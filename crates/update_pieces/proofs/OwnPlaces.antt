-- The name of a section that was placed leads to its own place.
use Rattle.std.proofs.Common.{◌≡◌, ℕ, suc, ◌<◌, true, false, List, [], ◌∷◌, map, Some, Ok, refl, ap}
use Rattle.std.proofs.Common.{◌∙◌, subst, inl, inr, arith}
use Rattle.std.specs.List.{AllZip}
use Rattle.std.specs.Cmp.Lexicographic.{bytes_decides}
use Rattle.std.proofs.lemmas.Bool.{cases_Bool}
use Rattle.ks_base.specs.declared.places.Range.{Range}
use Rattle.i386_reloc.specs.declared.types.NormalSection.{NormalSection}
use Rattle.i386_reloc.specs.Normal.{same_bytes}
use Rattle.image_memory.specs.Ranges.{Ascends}
use Rattle.link_post.specs.declared.types.Placed.{Placed}
use Rattle.link_post.specs.Places.{IsPlace, base_in, placed}
use Rattle.link_post.specs.Linked.{place_in, section_of, Rise, AreInOrder}
use Rattle.update_pieces.specs.Parts.{NewPart, at_places, size_of}
use Rattle.update_pieces.specs.Apart.{AreFound}
use Rattle.update_pieces.proofs.NewRanges.{PlacesLieApart}

-- sections that stand at two places of the object have two names
apart : (post : List NormalSection) (a b : List ℕ) → place_in post a < place_in post b → same_bytes a b ≡ false
apart post a b less =
    elim (cases_Bool (same_bytes a b)) [
      | inl same ↦
          let e : place_in post a ≡ place_in post b = ap (place_in post) ((bytes_decides a b).0 same) in
          absurd (omega arith)
      | inr other ↦ other
    ]

base_first : (place : Placed) (places : List Placed) (name : List ℕ) → place.section ≡ name
    → base_in (place ∷ places) name ≡ Some place.base
base_first place places name is =
    let same : same_bytes place.section name ≡ true = (bytes_decides place.section name).1 is in
    rw same refl

base_later : (place : Placed) (places : List Placed) (name : List ℕ) → same_bytes place.section name ≡ false
    → base_in (place ∷ places) name ≡ base_in places name
base_later place places name other = rw other refl

later_found : (gaps : List Range) (post : List NormalSection) (first : Placed) (all : List Placed) (floor : ℕ)
    (parts : List NewPart) (places : List Placed) → place_in post first.section < floor
    → AllZip (IsPlace gaps) (map size_of parts) places → Rise floor (map (place_in post) (map section_of places))
    → AreFound all (at_places parts places) → AreFound (first ∷ all) (at_places parts places)
later_found gaps post first all floor [] places below each rise found = tt
later_found gaps post first all floor (part ∷ parts) [] below each rise found = tt
later_found gaps post first all floor (part ∷ parts) (place ∷ places) below each rise found =
    let low = rise.0 in
    let named : place.section ≡ part.section.name = each.0.named in
    let other : same_bytes first.section part.section.name ≡ false =
    subst (λ (name : List ℕ). same_bytes first.section name ≡ false) named
    (apart post first.section place.section (omega arith)) in
    let next = suc (place_in post place.section) in (
      record { base = base_later first all part.section.name other ∙ found.0.base },
      later_found gaps post first all next parts places (omega arith) each.1 rise.1 found.1,
    )

all_found : (gaps : List Range) (post : List NormalSection) (floor : ℕ) (parts : List NewPart) (places : List Placed)
    → AllZip (IsPlace gaps) (map size_of parts) places
    → Rise floor (map (place_in post) (map section_of places)) → AreFound places (at_places parts places)
all_found gaps post floor [] places each rise = tt
all_found gaps post floor (part ∷ parts) [] each rise = tt
all_found gaps post floor (part ∷ parts) (place ∷ places) each rise = (
  record { base = base_first place places part.section.name each.0.named },
  later_found gaps post place places (suc (place_in post place.section)) parts places (omega arith) each.1 rise.1
      (all_found gaps post (suc (place_in post place.section)) parts places each.1 rise.1),
)

pub are_found : PlacesLieApart
    → (post : List NormalSection) (parts : List NewPart) (gaps : List Range) (placement : List Placed)
    → Ascends (λ (range : Range). range) 0 gaps → placed (map size_of parts) gaps ≡ Ok placement
    → AreInOrder post placement → AreFound placement (at_places parts placement)
are_found lie_apart post parts gaps placement up is order =
    all_found gaps post 0 parts placement (lie_apart (map size_of parts) gaps placement up is).each order
