-- Public clauses cite Windows, and Pages by what a memory is seen as. What `inside` holds is the code's own.
pub mod Windows
pub mod Pages
pub mod inside
pub mod laws
