-- Public clauses cite Constants (what stands in read-only memory), Endings (what the ends of an object's texts share)
-- and Texts (what is known of the bytes before addresses). What `inside` holds is the code's own.
pub mod Constants
pub mod Endings
pub mod Texts
pub mod inside
pub mod laws
