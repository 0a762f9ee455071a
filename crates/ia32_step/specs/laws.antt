-- A law of spelled numbers, proved, for the crates above.
pub mod OperandLaws
