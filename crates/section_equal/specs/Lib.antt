-- Public clauses cite Same alone; inside has what the code keeps.
pub mod Same
pub mod inside
