-- Public clauses cite Reading (what a file says, by Fields and Rules), Keeps, Spelling and Seen: all are what a reader
-- has to believe.
pub mod Fields
pub mod Rules
pub mod Reading
pub mod Seen
pub mod Keeps
pub mod Spelling
pub mod laws
