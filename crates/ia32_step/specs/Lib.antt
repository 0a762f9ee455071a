-- Public clauses cite `Step` (what a step leaves, by the files before it), `Threads`, `Code` and `Frames`: these and
-- the files before them are what a reader has to believe. What is `inside` only the code's own clauses cite.
pub mod Registers
pub mod Operands
pub mod Changes
pub mod Arithmetic
pub mod Moves
pub mod Stack
pub mod Branches
pub mod Exec
pub mod Step
pub mod Threads
pub mod Code
pub mod Frames
pub mod inside
pub mod laws
