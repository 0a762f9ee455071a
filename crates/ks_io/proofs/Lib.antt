pub mod NextLoads
