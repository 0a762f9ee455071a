-- The indices that the table keeps, cited only by contracts inside this crate.
pub mod Blocks
pub mod Entries
pub mod Functions
pub mod Indexed
pub mod Kinds
pub mod Names
pub mod Next
