-- Where regions end as the code keeps it, and an object with its places.
use Rattle.std.specs.Prelude.{List}
use Rattle.i386_reloc.specs.declared.types.NormalSection.{NormalSection}
use Rattle.link_post.specs.declared.types.Placed.{Placed}
use Rattle.image_link.specs.declared.ends.RegionEnds.{RegionEnds}
use Rattle.image_link.specs.Places.{Ends, Laid}

abbrev pub seen : RegionEnds → Ends
seen ends = record { code = ends.code; read_only = ends.read_only; writable = ends.writable }

abbrev pub laid : List NormalSection → List Placed → Laid
laid object places = record { object = object; places = places }
