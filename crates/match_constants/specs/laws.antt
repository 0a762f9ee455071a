-- Laws of a test of each number below another, proved, for the crates above.
pub mod BelowLaws
