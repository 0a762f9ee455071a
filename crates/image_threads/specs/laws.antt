-- Laws of the stacks of threads, proved, for the crates above.
pub mod StackLaws
