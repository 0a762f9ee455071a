-- What the code's own clauses cite; no public clause cites a file of this folder.
pub mod Carrying
pub mod Stepping
pub mod TakingBack
pub mod Scratching
