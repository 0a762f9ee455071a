-- Lists that are kept in blocks, each of them in order. Of the items before an index the last block begins at the index
-- without its lowest binary digit 1: a list of 13 has a block of 8, one of 4 and one of 1. So there are few blocks, and
-- an item that is put at the end changes the last block alone.
use Rattle.std.specs.Prelude.{ℕ, ◌-◌, ◌^◌, ◌≤◌, Bool, List, length}
use Rattle.std.specs.Int.{w64, trailing_zeros}
use Rattle.std.specs.List.Sorted.{IsSortedWithin}

-- where the last block of the items before an index begins
abbrev pub block_begin : ℕ → ℕ
block_begin end = end - 2 ^ trailing_zeros w64 end

-- in each block no item is less than the one before it
abbrev pub InBlocks : {X : Type 0} → (X → X → Bool) → List X → Type 0
InBlocks less xs = (end : ℕ) → end ≤ length xs → IsSortedWithin less xs (block_begin end) end
