-- What contracts inside this crate alone say.
pub mod Builds
pub mod Drafts
