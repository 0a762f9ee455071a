mod Bounds
mod Covered
mod Ends
mod Shared
