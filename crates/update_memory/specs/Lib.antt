-- Public clauses cite all of these: pieces that are added (Added), ranges that are retired (Retired), jumps (Rows), and
-- what is taken back of all this (Withdrawn).
pub mod Added
pub mod Retired
pub mod Rows
pub mod Withdrawn
