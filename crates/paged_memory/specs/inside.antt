-- Definitions for the code's own clauses: how many pages pieces need that aren't there (Missing), how pages come (Opening),
-- and which are left when a piece goes (Closing).
pub mod Missing
pub mod Opening
pub mod Closing
