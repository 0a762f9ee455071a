-- Public clauses cite Solves (that the placement of an object is a solution, and what is answered for it) and Held (what
-- stands at its places).
pub mod Solves
pub mod Held
