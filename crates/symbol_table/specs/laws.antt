-- Laws of the ascending addresses of a name, proved, for the crates above.
pub mod AscendingLaws
