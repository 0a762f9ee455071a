-- Public clauses cite Classes, References (relocations, fields, targets, symbols), Normal (the sections as they are
-- compared), Refused (when there are none), Sections (what an object file has), Places and Texts (where names, targets
-- and texts stand), Whole (which bytes and names sections have), Reaches (what sections reach, and where in a function a
-- reference goes) and Value (of a field). What stands in inside is the code's own.
pub mod Classes
pub mod Normal
pub mod Places
pub mod Reaches
pub mod References
pub mod Refused
pub mod Sections
pub mod Texts
pub mod Value
pub mod Whole
pub mod inside
pub mod laws
-- Definitions of crates below that other rooms cite, and that come through this one.
pub use Rattle.elf32_object.specs.Below
pub use Rattle.elf32_object.specs.Fields
pub use Rattle.elf32_object.specs.Numbers
pub use Rattle.elf32_object.specs.Rule
pub use Rattle.elf32_object.specs.Rules
pub use Rattle.elf32_object.specs.declared.types.ObjectFault
pub use Rattle.elf32_object.specs.declared.types.Reloc
pub use Rattle.elf32_object.specs.declared.types.SectionHeader
pub use Rattle.elf32_object.specs.laws.BelowLaws
