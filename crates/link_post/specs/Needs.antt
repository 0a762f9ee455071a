-- What the fields of new code need of the running program: each the address of what its reference goes to. As long as
-- the code stands, what is there has to stand.
use Rattle.std.specs.Prelude.{ℕ, List, map}
use Rattle.i386_reloc.specs.declared.types.Ref.{Ref}
use Rattle.i386_reloc.specs.declared.types.NormalSection.{NormalSection}
use Rattle.link_post.specs.declared.types.Placed.{Placed}
use Rattle.link_post.specs.declared.types.Need.{Need}
use Rattle.link_post.specs.declared.types.Needs.{Needs}
use Rattle.link_post.specs.Values.{ValueList, references_of}
use Rattle.link_post.specs.Linked.{address_of}

-- the field of a reference, and the `S` with which it is filled
abbrev pub need_of : List NormalSection → List Placed → ValueList → Ref → Need
need_of post placement values r = record { offset = r.offset; s = address_of post placement values r }

-- the needs of the section of a name: its fields, by offset
unfoldable pub needs : List NormalSection → List Placed → ValueList → List ℕ → Needs
needs post placement values name =
    record { section = name; fields = map (need_of post placement values) (references_of post name) }
