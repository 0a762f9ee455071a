-- Public clauses cite the jump at one home (Jump), memory with the jumps of many (Jumps), and the phases in which a jump
-- is written while threads run (Phases).
pub mod Jump
pub mod Jumps
pub mod Phases
pub mod laws
