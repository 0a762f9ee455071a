-- Public clauses cite the room for a jump (Room), what it means (Roomy), the ranges that are retired or guarded
-- (Retired), and why an update is refused for them (Overlaps). What `inside` holds is the code's own.
pub mod Room
pub mod Roomy
pub mod Retired
pub mod Overlaps
pub mod inside
