pub mod Asked
pub mod Closures
pub mod Edges
pub mod Fits
pub mod Found
pub mod Marks
pub mod Seeds
