-- One pass over free ranges and those that are taken, both in order.
use Rattle.std.specs.Prelude.{◌≡◌, ℕ, ◌≤◌, ◌<◌, max, List, [], ◌∷◌, length, take, fold}
use Rattle.ks_base.specs.declared.places.Range.{Range}
use Rattle.image_memory.specs.Ranges.{from_to}
use Rattle.link_post.specs.Places.{unless_empty, without}

-- what the first of the taken ranges leave of a range from floor on is what lies above their highest end
pub record Stands (taken : List Range) (floor next reach : ℕ) : Type 0 where
  pub within : next ≤ length taken
  pub leaves : (low high : ℕ) → floor ≤ low → low < high
      → fold without (from_to low high ∷ []) (take next taken) ≡ unless_empty (from_to (max low reach) high)
