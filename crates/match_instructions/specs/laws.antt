-- Laws of what places stand for, proved, for the crates above.
pub mod PlaceLaws
