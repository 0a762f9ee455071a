-- Laws of the machine, proved, for the crates above.
pub mod StackedLaws
pub mod TableLaws
pub mod StepLaws
pub mod ViewLaws
pub mod FirstPieces
pub mod DataLaws
