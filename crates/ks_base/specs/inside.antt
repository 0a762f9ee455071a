-- What contracts inside this crate alone say.
pub mod Parts
pub mod Fields
