-- The map of fates, and what is left of a plan after some steps, which only contracts inside this crate cite.
pub mod Fates
pub mod Rests
