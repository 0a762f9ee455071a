-- What holds of the pieces that an update adds: each has its section's size and lies in a gap, and no two share an
-- address.
use Rattle.std.specs.Prelude.{◌≡◌, ◌≢◌, ◌<◌, List, map, length, Some}
use Rattle.std.specs.List.{AllByRecursion}
use Rattle.ks_base.specs.declared.places.Range.{Range}
use Rattle.image_memory.specs.declared.types.Kind.{Kind}
use Rattle.image_memory.specs.declared.types.Piece.{Piece}
use Rattle.image_memory.specs.Contents.{piece_range}
use Rattle.image_memory.specs.Access.{kind_of}
use Rattle.i386_reloc.specs.declared.types.NormalSection.{NormalSection}
use Rattle.i386_reloc.specs.Normal.{section_named}
use Rattle.i386_reloc.specs.Whole.{IsWhole}
use Rattle.link_post.specs.declared.types.Placed.{Placed}
use Rattle.link_post.specs.Places.{AreApart, LiesInOne, base_in, extents}
use Rattle.update_pieces.specs.Parts.{NewPart, AtPlace, size_of}
use Rattle.link_post.specs.Sections.{kind_of_class}

-- a whole section of an object
pub record IsPartOf (post : List NormalSection) (part : NewPart) : Type 0 where
  pub found : section_named post part.section.name ≡ Some part.section
  pub whole : IsWhole part.section

abbrev pub ArePartsOf : List NormalSection → List NewPart → Type 0
ArePartsOf post parts = AllByRecursion (IsPartOf post) parts

abbrev pub kind_for : NewPart → Kind
kind_for part = kind_of_class part.section.class

-- a piece has some bytes, all of them in one of the gaps
pub record IsInGap (gaps : List Range) (piece : Piece) : Type 0 where
  pub some : 0 < length piece.bytes
  pub within : LiesInOne gaps (piece_range piece)

-- Pieces of sections at their places: one for each section in their order, with its size and the kind of its class.
pub record AreNewPieces (gaps : List Range) (parts : List NewPart) (placement : List Placed) (pieces : List Piece)
    : Type 0 where
  pub ranges : map piece_range pieces ≡ extents (map size_of parts) placement
  pub kinds : map kind_of pieces ≡ map kind_for parts
  pub each : AllByRecursion (IsInGap gaps) pieces
  pub apart : AreApart (map piece_range pieces)

-- a section's name leads to the place that it has
pub record IsFound (placement : List Placed) (part : AtPlace) : Type 0 where
  pub base : base_in placement part.section.name ≡ Some part.base

abbrev pub AreFound : List Placed → List AtPlace → Type 0
AreFound placement parts = AllByRecursion (IsFound placement) parts
