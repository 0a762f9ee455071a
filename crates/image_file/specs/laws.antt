-- Laws of what is read step by step, proved, for the crates above.
pub mod FieldLaws
