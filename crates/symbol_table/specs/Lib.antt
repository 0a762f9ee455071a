-- Public clauses cite Symbols, Bodies and Table, and Unknowns of what is solved. What stands in inside is the code's
-- own: the indices of the symbols, in blocks.
pub mod Bodies
pub mod Symbols
pub mod Table
pub mod Unknowns
pub mod inside
pub mod laws
