-- Public clauses cite Members, Extract, Extracted, and Roles: what an update does with the section of a name. inside
-- has what the code keeps.
pub mod Members
pub mod Extract
pub mod Extracted
pub mod Roles
pub mod inside
-- Definitions of crates below that other rooms cite, and that come through this one.
pub use Rattle.section_equal.specs.Same
