-- Public clauses cite Text (how a reply writes numbers and names) and Refusals (what each refusal prints). Gives (what
-- an answer gives that may be a refusal) is for the crates above. What stands in inside is the code's own: the parts of
-- a line, one after another.
pub mod Text
pub mod Refusals
pub mod Gives
pub mod inside
