-- Public clauses cite Candidates (which functions a section may be) and OwnFaults (what is wrong with one section by
-- itself, and what is kept of candidates), and laws Alike (running programs in which both are the same). What `inside`
-- holds is the code's own.
pub mod Candidates
pub mod OwnFaults
pub mod Alike
pub mod inside
