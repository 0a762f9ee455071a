-- What the code keeps on its way, cited only by contracts inside this crate.
pub mod Fields
pub mod Functions
pub mod Known
pub mod Loaded
pub mod NamePlaces
pub mod Objects
pub mod Targets
pub mod Zeros
