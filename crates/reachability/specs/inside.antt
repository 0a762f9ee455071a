-- The walk of the code, cited only by contracts inside this crate.
pub mod Walk
