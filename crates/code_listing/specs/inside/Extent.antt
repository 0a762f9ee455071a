-- Code up to an address.
use Rattle.std.specs.Prelude.{ℕ}
use Rattle.image_memory.specs.Contents.{Contents}

-- a memory, and the address at which the listing of its code ends
pub record Extent : Type 0 where
  pub contents : Contents
  pub end : ℕ
