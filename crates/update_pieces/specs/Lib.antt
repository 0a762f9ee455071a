-- Public clauses cite Parts (the sections that an update places), Pieces, NewSymbols and Reports (what comes of them),
-- Apart (what holds of new pieces) and NewText (that each replaced function has one). What `inside` holds is the code's
-- own.
pub mod Parts
pub mod Pieces
pub mod NewSymbols
pub mod Reports
pub mod Apart
pub mod NewText
pub mod inside
