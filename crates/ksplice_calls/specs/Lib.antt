-- Public clauses cite Calls (what a call comes to), by Reply, Works, Linking, Difference, Solution and Answer, and
-- Promises in laws. What `inside` holds is the code's own.
pub mod Difference
pub mod Solution
pub mod Answer
pub mod Reply
pub mod Works
pub mod Linking
pub mod Calls
pub mod Promises
pub mod inside
