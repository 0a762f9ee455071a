-- Public clauses cite Outside, Answered, Kept and Loads, and of what lives in memory InMemory and Held.
pub mod Outside
pub mod Answered
pub mod InMemory
pub mod Held
pub mod Kept
pub mod Loads
pub mod laws
