pub mod Blocks
pub mod EndsOfTexts
pub mod Samenesses
pub mod LaneLaws
