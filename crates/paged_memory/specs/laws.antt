-- Laws of the pieces that pages have, proved: they may make up a memory.
pub mod PlacedLaws
