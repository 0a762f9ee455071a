-- How the first fitting gap and a section's place are found, and what is left of free ranges, which only contracts
-- inside this crate cite.
pub mod Rooms
pub mod Lookups
pub mod Blocks
pub mod BlockLists
pub mod Sweeping
