-- The map of old functions, which only contracts inside this crate cite.
pub mod OldMaps
