-- Laws of Below, proved, for the crates above.
pub mod BelowLaws
