-- What the code keeps: no public clause cites it.
pub mod Candidates
pub mod Forms
pub mod Kept
pub mod Reached
pub mod Texts
