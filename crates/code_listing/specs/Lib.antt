-- Public clauses cite Lines and Listing. What `inside` holds is the code's own.
pub mod Lines
pub mod Listing
pub mod inside
