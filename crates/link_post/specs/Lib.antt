-- Public clauses cite Values (what references need), Places (where sections are placed, and what is left of free
-- ranges), Linked (the sections' bytes there), Needs (the addresses that these hold) and Sections (what a placed section
-- becomes in memory). What `inside` holds is the code's own.
pub mod Values
pub mod Places
pub mod Linked
pub mod Needs
pub mod Sections
pub mod inside
