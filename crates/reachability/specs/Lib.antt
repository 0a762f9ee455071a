-- Public clauses cite Reached. What stands in inside is the code's own.
pub mod Reached
pub mod inside
