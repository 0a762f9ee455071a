-- What the code works with, which only contracts inside this crate cite.
pub mod InMemory
