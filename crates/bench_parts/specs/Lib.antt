-- Clauses cite Meets: it is what a reader has to believe.
pub mod Meets
