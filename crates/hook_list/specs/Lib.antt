-- Public clauses cite Listed: which functions an object lists.
pub mod Listed
