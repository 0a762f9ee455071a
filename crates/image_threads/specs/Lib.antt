-- Public clauses cite what a program is (Program) and how a thread starts, steps and has its turn (Spawning, Stepping,
-- Turning).
pub mod Program
pub mod Spawning
pub mod Stepping
pub mod Turning
pub mod laws
