-- Laws of rounds, proved, for the crates above.
pub mod RoundLaws
