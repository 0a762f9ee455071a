-- Laws of places (PlaceLaws, NamedPlaces) and of distinct names (NameLaws), proved, for the crates above.
pub mod PlaceLaws
pub mod NameLaws
pub mod NamedPlaces
