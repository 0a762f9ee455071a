-- Laws of the prefixes of what was written (Fronts), of what stays (KeptLaws) and of loads (LoadLaws), proved, for the
-- crates above.
pub mod Fronts
pub mod KeptLaws
pub mod LoadLaws
