-- The state of the code, cited only by contracts inside this crate.
pub mod Engine
pub mod State
pub mod Striking
