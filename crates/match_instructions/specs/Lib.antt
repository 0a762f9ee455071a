-- Public clauses cite Instructions, PreCode and RunCode (the two lists of instructions), Landing (where a section's
-- code can't be matched), and Places and PreLists (what is kept of a list). What `inside` holds is the code's own.
pub mod Instructions
pub mod PreCode
pub mod Landing
pub mod RunCode
pub mod Places
pub mod PreLists
pub mod inside
pub mod laws
