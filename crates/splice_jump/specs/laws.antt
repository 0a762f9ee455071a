-- Laws of lists of writes (WriteLaws), of bytes of code (CodeLaws), of the homes of jumps (RowLaws) and of the bytes at
-- one home (PhaseLaws), proved, for the crates above.
pub mod WriteLaws
pub mod CodeLaws
pub mod RowLaws
pub mod PhaseLaws
