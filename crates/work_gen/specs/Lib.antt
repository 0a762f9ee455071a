-- Public clauses cite Work (what is made of a number); it is said by Functions, Image, Objects and Script, and these by
-- Encoding and ElfFile. What stands in inside is the code's own.
pub mod Encoding
pub mod Functions
pub mod Image
pub mod ElfFile
pub mod Objects
pub mod Script
pub mod Work
pub mod inside
