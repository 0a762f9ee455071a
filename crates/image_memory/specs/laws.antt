-- Laws of ranges (RangeLaws), of things put among things in order (PutLaws) and taken out (ChangeLaws), of reads and
-- writes (AccessLaws) part by part (ByteLaws), and of windows (WindowLaws), proved, for the crates above.
pub mod RangeLaws
pub mod PutLaws
pub mod ChangeLaws
pub mod AccessLaws
pub mod ByteLaws
pub mod WindowLaws
