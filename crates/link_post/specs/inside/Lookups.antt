-- Which placed sections stand before a place in an object.
use Rattle.std.specs.Prelude.{ℕ, Bool, nat_lt, List}
use Rattle.i386_reloc.specs.declared.types.NormalSection.{NormalSection}
use Rattle.link_post.specs.declared.types.Placed.{Placed}
use Rattle.link_post.specs.Linked.{place_in}

abbrev pub is_before : List NormalSection → ℕ → Placed → Bool
is_before post place placed = nat_lt (place_in post placed.section) place
