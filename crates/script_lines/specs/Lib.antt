-- Public clauses cite Script (by Lines, Numbers and Forms) and Allowed: all are what a reader has to believe.
pub mod Lines
pub mod Numbers
pub mod Forms
pub mod Script
pub mod Allowed
