-- Clauses of the tests cite Data.
pub mod Data
