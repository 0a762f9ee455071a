-- Where the search for members begins. A list of marks has a place for each node.
use Rattle.std.specs.Prelude.{◌≡◌, ◌⊎◌, IsTrue, ℕ, Bool, false, true, not, ◌&&◌, List, Some}
use Rattle.std.specs.List.{slice_get, slice_index_or}
use Rattle.i386_reloc.specs.declared.types.NormalSection.{NormalSection}
use Rattle.i386_reloc.specs.Classes.{is_code_class}
use Rattle.i386_reloc.specs.Reaches.{is_in}
use Rattle.extract_post.specs.Members.{is_there, Differs}
use Rattle.extract_post.specs.inside.Edges.{member_node, post_numbers}

-- The members from which the others are found: code sections that differ, and those of post alone.
abbrev pub IsSeed : List NormalSection → List NormalSection → List ℕ → Type 0
IsSeed pre post name = Differs pre post name ⊎ IsTrue (is_in is_code_class post name && not (is_there pre name))

-- a node is that of such a section of post, as a member
pub record IsSeedNode (pre post : List NormalSection) (node : ℕ) : Type 0 where
  pub place : ℕ
  pub section : NormalSection
  pub at : slice_get post place ≡ Some section
  pub is_node : node ≡ member_node (post_numbers pre post) place
  pub is_seed : IsSeed pre post section.name

-- the marks are at all such nodes, and at no others
pub record AreSeeds (pre post : List NormalSection) (seeds : List Bool) : Type 0 where
  pub sound : (node : ℕ) → slice_index_or seeds node false ≡ true → IsSeedNode pre post node
  pub complete : (place : ℕ) (section : NormalSection) → slice_get post place ≡ Some section →
      IsSeed pre post section.name → slice_index_or seeds (member_node (post_numbers pre post) place) false ≡ true
