-- What the code keeps: no public clause cites it.
pub mod Texts
