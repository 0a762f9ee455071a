-- What the code keeps: no public clause cites it.
pub mod Least
pub mod Met
pub mod Named
