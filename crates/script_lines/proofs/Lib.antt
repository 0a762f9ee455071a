pub mod Bounds
pub mod Cuts
pub mod Digits
pub mod LineByLine
pub mod Words
