-- Ranges that are retired in a memory.
use Rattle.std.specs.Prelude.{◌≡◌, ◌<◌, false, List, map}
use Rattle.std.specs.List.{fold, All, AllPairs}
use Rattle.ks_base.specs.declared.places.Range.{Range}
use Rattle.image_memory.specs.declared.types.Fence.{Fence}
use Rattle.image_memory.specs.Ranges.{meets, MeetsNone, put_in}
use Rattle.image_memory.specs.Contents.{Contents, fence_range}
use Rattle.image_memory.specs.Changes.{after_fence}

-- Ranges that can be retired: none is empty, no two of them share an address, and none shares one with a retired range.
pub record AreRetirable (contents : Contents) (fences : List Fence) : Type 0 where
  pub full : All (λ range. range.low < range.high) (map fence_range fences)
  pub apart : AllPairs (λ range other. meets range other ≡ false) (map fence_range fences)
  pub clear : All (λ range. MeetsNone fence_range range contents.fences) (map fence_range fences)

-- a memory with retired ranges more, retired in their order
unfoldable pub with_fences : Contents → List Fence → Contents
with_fences contents fences = fold after_fence contents fences

-- ranges that ascend, with more of them put in their places
abbrev pub with_range : List Range → Range → List Range
with_range ranges range = put_in (λ (r : Range). r) range ranges

abbrev pub with_ranges : List Range → List Range → List Range
with_ranges ranges more = fold with_range ranges more
