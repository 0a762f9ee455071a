-- The edges along which an extract is searched for. Sections are numbered by their places.
use Rattle.std.specs.Prelude.{ℕ, suc, ◌+◌, if◌then◌else◌, List, [], ◌∷◌, ◌++◌, length, Option, Some, None, slice_get}
use Rattle.std.specs.List.{flat_map}
use Rattle.reachability.specs.declared.edge.Edge.{Edge}
use Rattle.i386_reloc.specs.declared.types.Class.{Class}
use Rattle.i386_reloc.specs.declared.types.Ref.{Ref}
use Rattle.i386_reloc.specs.declared.types.NormalSection.{NormalSection}
use Rattle.i386_reloc.specs.Classes.{is_code_class}
use Rattle.i386_reloc.specs.Places.{place_named, place_of_target}
pub use Rattle.extract_post.specs.declared.types.Link.{Link}
pub use Rattle.extract_post.specs.declared.types.Numbers.{Numbers}
use Rattle.i386_reloc.specs.Reaches.{is_read_only_class, is_constant_class, is_interior}

-- an edge
abbrev pub edge : ℕ → ℕ → Edge
edge from to = record { from = from; to = to }

abbrev pub link_to : List NormalSection → ℕ → Class → Ref → Option ℕ → List Link
link_to sections from from_class r None = []
link_to sections from from_class r (Some to) = link_at (slice_get sections to) where
  link_at : Option NormalSection → List Link
  link_at None = []
  link_at (Some target) = record {
    from = from;
    from_class = from_class;
    to = to;
    to_class = target.class;
    interior =
        is_interior r;
  } ∷ []

-- the links of a section's references, and of all sections from a place on
abbrev pub links_of : List NormalSection → ℕ → NormalSection → List Link
links_of sections place section =
    flat_map (λ r. link_to sections place section.class r (place_of_target sections r.target)) section.refs

abbrev pub links_from : List NormalSection → ℕ → List NormalSection → List Link
links_from sections place [] = []
links_from sections place (section ∷ rest) = links_of sections place section ++ links_from sections (suc place) rest

abbrev pub links_in : List NormalSection → List Link
links_in sections = links_from sections 0 sections

-- along which read-only data and texts are reached, and back
abbrev pub forward : Link → List Edge
forward link = if is_constant_class link.to_class then edge link.from link.to ∷ [] else []

abbrev pub backward : Link → List Edge
backward link = if is_constant_class link.to_class then edge link.to link.from ∷ [] else []

-- The nodes for members: of each section of both objects, counted from a base, there is one for being a member, one
-- for being reached from a member, and one for leading into a member.
abbrev pub member_node : Numbers → ℕ → ℕ
member_node n place = n.base + place

abbrev pub from_node : Numbers → ℕ → ℕ
from_node n place = n.total + (n.base + place)

abbrev pub into_node : Numbers → ℕ → ℕ
into_node n place = n.total + (n.total + (n.base + place))

-- along which members are found
abbrev pub joins : Numbers → Link → List Edge
joins n link =
    if is_code_class link.to_class then (if link.interior then joins_interior else [])
    else (if is_constant_class link.to_class then joins_constant else []) where
      joins_interior : List Edge
      joins_interior =
          if is_code_class link.from_class
          then edge (member_node n link.from) (member_node n link.to) ∷ edge (member_node n link.to)
          (member_node n link.from) ∷ []
          else (if is_read_only_class link.from_class
          then edge (from_node n link.from) (member_node n link.to) ∷ edge (member_node n link.to)
          (into_node n link.from) ∷ []
          else [])

      joins_constant : List Edge
      joins_constant =
          if is_code_class link.from_class
          then edge (member_node n link.from) (from_node n link.to) ∷ edge (into_node n link.to)
          (member_node n link.from) ∷ []
          else (if is_constant_class link.from_class
          then edge (from_node n link.from) (from_node n link.to) ∷ edge (into_node n link.to)
          (into_node n link.from) ∷ []
          else [])

-- a section of both objects is a member in both: edges between its nodes, both ways, from a place of the first on
abbrev pub twins_from : (pre post : Numbers) → List NormalSection → ℕ → List NormalSection → List Edge
twins_from p q post place [] = []
twins_from p q post place (section ∷ rest) = twin (place_named post section.name) ++ twins_from p q post
    (suc place) rest where
      twin : Option ℕ → List Edge
      twin None = []
      twin (Some other) = edge (member_node p place) (member_node q other) ∷ edge (member_node q other)
          (member_node p place) ∷ []

-- post's sections come first
abbrev pub pre_numbers : List NormalSection → List NormalSection → Numbers
pre_numbers pre post = record { base = length post; total = length pre + length post }

abbrev pub post_numbers : List NormalSection → List NormalSection → Numbers
post_numbers pre post = record { base = 0; total = length pre + length post }

unfoldable pub member_edges : List NormalSection → List NormalSection → List Edge
member_edges pre post =
    flat_map (joins (pre_numbers pre post)) (links_in pre)
    ++ flat_map (joins (post_numbers pre post)) (links_in post)
    ++ twins_from (pre_numbers pre post) (post_numbers pre post) post 0 pre
