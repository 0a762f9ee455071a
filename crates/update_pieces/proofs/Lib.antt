pub mod Zips
pub mod Steps
pub mod OldNames
pub mod NewRanges
pub mod OwnPlaces
pub mod NewTexts
