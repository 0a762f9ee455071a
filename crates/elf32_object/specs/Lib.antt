-- Public clauses cite Numbers (the numbers of the format, under their names), Fields (what a file says), Rule and Rules
-- (when one is refused) and Below (words of these). What stands in inside is the code's own.
pub mod Below
pub mod Fields
pub mod Numbers
pub mod Rule
pub mod Rules
pub mod inside
pub mod laws
