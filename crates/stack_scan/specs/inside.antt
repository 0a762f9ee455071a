-- What the code's own clauses cite; no public clause cites a file of this folder.
pub mod Cuts
pub mod Words
