-- All of these are cited by public clauses, and are what a reader has to believe: how wide operands are, bits as
-- numbers and the flags of a result first, then a file for each public call.
pub mod Widths
pub mod Numbers
pub mod Arithmetic
pub mod Shifts
pub mod Products
pub mod Conditions
