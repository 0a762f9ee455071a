-- What the code keeps on its way, cited only by contracts inside this crate.
pub mod Held
pub mod Kept
pub mod Rows
pub mod Taken
