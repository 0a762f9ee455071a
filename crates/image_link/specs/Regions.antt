-- The regions of a linked image: which sections go to each, where it begins, at which addresses sections may begin in it,
-- and what stands between them.
use Rattle.std.specs.Prelude.{ℕ, max}
use Rattle.image_memory.specs.declared.types.Kind.{Kind}
use Rattle.image_memory.specs.declared.types.Kind.TheVariants as kinds
use Rattle.i386_reloc.specs.declared.types.NormalSection.{NormalSection}
use Rattle.link_post.specs.Sections.{kind_of_class}

-- the region that a section goes to, by its class: code, texts and other constants, or data that the program may change
abbrev pub kind_of : NormalSection → Kind
kind_of section = kind_of_class section.class

-- the lowest address of a region
abbrev pub start_of : Kind → ℕ
start_of kinds.Code = 0x0010_0000
start_of kinds.ReadOnly = 0x0200_0000
start_of kinds.Writable = 0x0300_0000

-- each section of a region begins at a multiple of this
abbrev pub unit_of : Kind → ℕ
unit_of kinds.Code = 16
unit_of kinds.ReadOnly = 4
unit_of kinds.Writable = 4

-- A section begins at a multiple of that and of its alignment: both are powers of two, or the alignment is 0.
abbrev pub boundary : NormalSection → ℕ
boundary section = max (unit_of (kind_of section)) section.align

-- the byte that stands between sections: in code NOP
abbrev pub gap_of : Kind → ℕ
gap_of kinds.Code = 0x90
gap_of kinds.ReadOnly = 0
gap_of kinds.Writable = 0
