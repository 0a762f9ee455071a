-- Small is a memory, and what an update does to it.
pub mod Small
