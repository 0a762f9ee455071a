-- Public clauses cite Rounds (which items are left), Least (that these are what two rules lead to, and no more),
-- Conflicts (which of them clash) and Choices (the same for choices whose claims and demands are numbers). What stands in inside is the code's own.
pub mod Rounds
pub mod Conflicts
pub mod Choices
pub mod Least
pub mod inside
pub mod laws
