-- What the code keeps: no public clause cites it.
pub mod Numbers
pub mod Points
pub mod Claims
pub mod Left
pub mod Reported
