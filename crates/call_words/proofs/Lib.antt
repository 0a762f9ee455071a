pub mod Building
pub mod Walks
pub mod Levels
pub mod Readings
