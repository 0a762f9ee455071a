-- How places are counted, symbols looked up and bytes put together, and what is known of objects that were read, which
-- only contracts inside this crate cite.
pub mod Laying
pub mod Counting
pub mod Globals
pub mod Missing
pub mod Joining
pub mod Linkable
pub mod Filling
