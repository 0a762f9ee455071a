-- Public clauses cite Linked (the image to which objects are linked), by Regions (where sections go), Places (where each
-- is placed), Symbols and Refused (why there is no image). What `inside` holds is the code's own.
pub mod Regions
pub mod Places
pub mod Symbols
pub mod Refused
pub mod Linked
pub mod inside
