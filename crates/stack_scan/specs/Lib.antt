-- Public clauses cite `Standing` alone. What `inside` holds is the code's own.
pub mod Standing
pub mod inside
