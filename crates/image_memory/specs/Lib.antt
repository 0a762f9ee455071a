-- Public clauses cite these: what memory holds (Ranges, Contents), what is read and written (Access), what is fetched
-- (Fetch), and how pieces and retired ranges change (Changes).
pub mod Ranges
pub mod Contents
pub mod Access
pub mod Fetch
pub mod Changes
pub mod laws
