-- New pieces have the extents of their sections at the places that these were given.
use Rattle.std.proofs.Common.{◌≡◌, ◌≢◌, ℕ, ◌+◌, List, [], ◌∷◌, length}
use Rattle.std.proofs.Common.{map, Some, Ok, refl, sym, ap, ◌∙◌, subst, inl, inr, arith, length-take}
use Rattle.std.proofs.Common.{length-drop, length-append}
use Rattle.std.specs.Prelude.{nat_le, unwrap_or}
use Rattle.std.specs.Int.{w32, to_le_bytes}
use Rattle.std.specs.List.{AllByRecursion, AllZip, fold}
use Rattle.std.proofs.lemmas.Bool.{cases_Bool, leb-true}
use Rattle.std.proofs.lemmas.List.{length-replicate}
use Rattle.ks_base.specs.declared.places.Range.{Range}
use Rattle.image_memory.specs.Ranges.{Ascends}
use Rattle.image_memory.specs.Contents.{piece_range}
use Rattle.image_memory.specs.declared.types.Piece.{Piece}
use Rattle.image_memory.specs.Access.{kind_of}
use Rattle.i386_reloc.specs.declared.types.Class.{Class}
use Rattle.i386_reloc.specs.declared.types.Class.TheVariants.{Zero, Code, Writable, Strings, ReadOnly}
use Rattle.i386_reloc.specs.declared.types.Ref.{Ref}
use Rattle.i386_reloc.specs.declared.types.NormalSection.{NormalSection}
use Rattle.i386_reloc.specs.Normal.{section_named}
use Rattle.link_post.specs.declared.types.SectionSize.{SectionSize}
use Rattle.link_post.specs.declared.types.Placed.{Placed}
use Rattle.link_post.specs.Values.{ValueList}
use Rattle.link_post.specs.Places.{AreApart, ArePlaces, IsPlace, LiesInOne, base_in, extent, extents, placed}
use Rattle.link_post.specs.Linked.{filled, linked, linked_by, linked_section, with_word}
use Rattle.update_pieces.specs.Parts.{NewPart, at_place, at_places, size_of}
use Rattle.update_pieces.specs.Pieces.{new_piece, new_pieces}
use Rattle.i386_reloc.specs.Whole.{IsWhole}
use Rattle.update_pieces.specs.Apart.{IsPartOf, ArePartsOf, IsInGap, AreNewPieces, kind_for}

-- ---- the length of linked bytes
word_length : (word : ℕ) → length (to_le_bytes w32 word) ≡ 4
word_length word = refl

length-with_word : (bytes : List ℕ) (offset word : ℕ) → length (with_word bytes offset word) ≡ length bytes
length-with_word bytes offset word =
    elim (cases_Bool (nat_le (offset + 4) (length bytes))) [
      | inl fits ↦
          let within = leb-true (offset + 4) (length bytes) fits in
          rw fits
          (simp (length-append, length-take, length-drop) (omega (arith, word_length word)))
      | inr outside ↦ rw outside refl
    ]

length-filled : (post : List NormalSection) (placement : List Placed) (values : ValueList) (base : ℕ) (bytes : List ℕ)
    (r : Ref) → length (filled post placement values base bytes r) ≡ length bytes
unfolding filled
length-filled post placement values base bytes r = length-with_word bytes r.offset _

length-all_filled : (post : List NormalSection) (placement : List Placed) (values : ValueList) (base : ℕ)
    (bytes : List ℕ) (refs : List Ref) → length (fold (filled post placement values base) bytes refs) ≡ length bytes
length-all_filled post placement values base bytes [] = refl
length-all_filled post placement values base bytes (r ∷ refs) =
    length-all_filled post placement values base (filled post placement values base bytes r) refs
    ∙ length-filled post placement values base bytes r

length-linked_by : (class : Class) (post : List NormalSection) (placement : List Placed) (values : ValueList)
    (section : NormalSection) (base : ℕ) → (class ≢ Zero → length section.bytes ≡ section.size)
    → length (linked_by class post placement values section base) ≡ section.size
length-linked_by Zero post placement values section base all = length-replicate section.size 0
length-linked_by Code post placement values section base all =
    length-all_filled post placement values base section.bytes section.refs ∙ all (λ e. cc)
length-linked_by Writable post placement values section base all =
    length-all_filled post placement values base section.bytes section.refs ∙ all (λ e. cc)
length-linked_by Strings post placement values section base all =
    length-all_filled post placement values base section.bytes section.refs ∙ all (λ e. cc)
length-linked_by ReadOnly post placement values section base all =
    length-all_filled post placement values base section.bytes section.refs ∙ all (λ e. cc)

length-linked : (post : List NormalSection) (placement : List Placed) (values : ValueList) (section : NormalSection)
    → section_named post section.name ≡ Some section → IsWhole section
    → length (linked post placement values section.name) ≡ section.size
unfolding linked
length-linked post placement values section found whole =
    ap (λ o. length (linked_section post placement values o)) found
    ∙ length-linked_by section.class post placement values section (unwrap_or (base_in placement section.name) 0)
    whole.all

-- ---- the pieces of parts
piece_is : (post : List NormalSection) (placement : List Placed) (values : ValueList) (part : NewPart)
    (place : Placed) → IsPartOf post part
    → piece_range (new_piece post placement values (at_place part place)) ≡ extent (size_of part) place.base
piece_is post placement values part place is =
    ap (λ (n : ℕ). record { low = place.base; high = place.base + n })
    (length-linked post placement values part.section is.found is.whole)

abbrev pieces_at : List NormalSection → List Placed → ValueList → List NewPart → List Placed → List Piece
pieces_at post placement values parts places = map (new_piece post placement values) (at_places parts places)

ranges_are : (post : List NormalSection) (placement : List Placed) (values : ValueList) (parts : List NewPart)
    (places : List Placed) → ArePartsOf post parts
    → map piece_range (pieces_at post placement values parts places) ≡ extents (map size_of parts) places
ranges_are post placement values [] places are = refl
ranges_are post placement values (part ∷ parts) [] are = refl
ranges_are post placement values (part ∷ parts) (place ∷ places) are =
    let first = piece_is post placement values part place are.0 in
    let rest = ranges_are post placement values parts places are.1 in
    λ i. first i ∷ rest i

kinds_are : (post : List NormalSection) (placement : List Placed) (values : ValueList) (gaps : List Range)
    (parts : List NewPart) (places : List Placed) → AllZip (IsPlace gaps) (map size_of parts) places
    → map kind_of (pieces_at post placement values parts places) ≡ map kind_for parts
kinds_are post placement values gaps [] places each = refl
kinds_are post placement values gaps (part ∷ parts) [] each = absurd each
kinds_are post placement values gaps (part ∷ parts) (place ∷ places) each =
    ap (λ ks. kind_for part ∷ ks) (kinds_are post placement values gaps parts places each.1)

in_gaps : (post : List NormalSection) (placement : List Placed) (values : ValueList) (gaps : List Range)
    (parts : List NewPart) (places : List Placed) → ArePartsOf post parts
    → AllZip (IsPlace gaps) (map size_of parts) places
    → AllByRecursion (IsInGap gaps) (pieces_at post placement values parts places)
in_gaps post placement values gaps [] places are each = tt
in_gaps post placement values gaps (part ∷ parts) [] are each = tt
in_gaps post placement values gaps (part ∷ parts) (place ∷ places) are each =
    let long = length-linked post placement values part.section are.0.found are.0.whole in
    let some = are.0.whole.some in
    let here = piece_is post placement values part place are.0 in (
      record {
        some = omega arith;
        within =
            subst (λ (r : Range). LiesInOne gaps r) (sym here) each.0.within;
      },
      in_gaps post placement values gaps parts places are.1 each.1,
    )

-- what link_post says of places
abbrev pub PlacesLieApart : Type 0
PlacesLieApart =
    (sizes : List SectionSize) (gaps : List Range) (places : List Placed) → Ascends (λ (range : Range). range) 0 gaps
    → placed sizes gaps ≡ Ok places → ArePlaces gaps sizes places

-- where places lie apart, so do the pieces there
pub are_new_pieces : PlacesLieApart
    → (post : List NormalSection) (parts : List NewPart) (gaps : List Range) (placement : List Placed)
    (values : ValueList) → Ascends (λ (range : Range). range) 0 gaps → ArePartsOf post parts
    → placed (map size_of parts) gaps ≡ Ok placement
    → AreNewPieces gaps parts placement (new_pieces post parts placement values)
are_new_pieces lie_apart post parts gaps placement values up are is =
    let places : ArePlaces gaps (map size_of parts) placement = lie_apart (map size_of parts) gaps placement up is in
    record {
      ranges = ranges_are post placement values parts placement are;
      kinds = kinds_are post placement values gaps parts placement places.each;
      each = in_gaps post placement values gaps parts placement are places.each;
      apart =
          subst (λ (rs : List Range). AreApart rs) (sym (ranges_are post placement values parts placement are))
          places.apart;
    }
