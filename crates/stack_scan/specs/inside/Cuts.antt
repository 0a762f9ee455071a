-- How many of some ranges in order end at or below an address, and slots into which addresses are cut.
use Rattle.std.specs.Prelude.{◌≡◌, ℕ, ◌+◌, ◌-◌, ◌*◌, ◌^◌, ◌≤◌, ◌<◌, List, length, get_or}
use Rattle.std.specs.List.{AllWithin}
use Rattle.ks_base.specs.declared.places.Range.{Range}
use Rattle.stack_scan.specs.declared.slots.Slots.{Slots}

-- the first n ranges end at or below an address, and the others above it
pub record Ends (ranges : List Range) (address n : ℕ) : Type 0 where
  pub bound : n ≤ length ranges
  pub below : AllWithin (λ range. range.high ≤ address) ranges 0 n
  pub above : AllWithin (λ range. address < range.high) ranges n (length ranges)

-- Slots from a low address on take in all up to a high one. At each bound it is known how many ranges end there or below.
pub record IsCut (slots : Slots) (low high : ℕ) (ranges : List Range) : Type 0 where
  pub first : slots.low ≡ low
  pub shift : slots.shift ≤ 20
  pub reach : high - low < 4096 * 2 ^ slots.shift
  pub ended : (s : ℕ) → s < 4097 → Ends ranges (slots.low + s * 2 ^ slots.shift) (get_or slots.ended s 0)
