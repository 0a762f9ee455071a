-- Ordered says of choices, as a program tests it, that they stand in their order.
pub mod Ordered
