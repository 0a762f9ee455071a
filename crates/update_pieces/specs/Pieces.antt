-- The pieces of memory that an update adds: one for each section that it places.
use Rattle.std.specs.Prelude.{List, map}
use Rattle.image_memory.specs.declared.types.Piece.{Piece}
use Rattle.i386_reloc.specs.declared.types.NormalSection.{NormalSection}
use Rattle.link_post.specs.declared.types.Placed.{Placed}
use Rattle.link_post.specs.Values.{ValueList}
use Rattle.link_post.specs.Linked.{linked}
use Rattle.link_post.specs.Sections.{kind_of_class}
use Rattle.update_pieces.specs.Parts.{NewPart, AtPlace, at_places}

-- a section at its place, with its linked bytes
abbrev pub new_piece : List NormalSection → List Placed → ValueList → AtPlace → Piece
new_piece post placement values part =
    record {
      kind = kind_of_class part.section.class;
      base = part.base;
      bytes = linked post placement values part.section.name;
    }

-- the pieces of all sections, in their order
abbrev pub new_pieces : List NormalSection → List NewPart → List Placed → ValueList → List Piece
new_pieces post parts placement values = map (new_piece post placement values) (at_places parts placement)
