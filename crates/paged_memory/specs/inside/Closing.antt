-- What is left of extents when one goes, and of the pages that know of it.
use Rattle.std.specs.Prelude.{◌≡◌, ℕ, ◌+◌, ◌≤◌, ◌<◌, Bool, List, map, length, slice_index_or, nat_lt}
use Rattle.std.specs.List.{All, filter, remove}
use Rattle.paged_memory.specs.declared.types.Extent.{Extent}
use Rattle.paged_memory.specs.declared.types.Page.{Page}
use Rattle.paged_memory.specs.Pages.{extent_range, page_low, uncounting}

-- the extent of a base was taken out
pub record IsTaken (old new : List Extent) (base : ℕ) (extent : Extent) : Type 0 where
  pub at : ℕ
  pub within : at < length old
  pub is : (d : Extent) → slice_index_or old at d ≡ extent
  pub base_is : extent.base ≡ base
  pub left : new ≡ remove old at

-- each page counts an extent where that ends at or below it, and where it begins below the page's end
abbrev pub IsCounted : Extent → List Page → Type 0
IsCounted extent pages = All (λ page. ((extent_range extent).high ≤ page_low page → 0 < page.first)
    × (extent.base < page_low page + 4096 → 0 < page.last)) pages

-- whether an extent has a byte in a page
abbrev pub is_used : Page → Bool
is_used page = nat_lt page.first page.last

-- the pages that others have a byte in, after an extent was taken from what pages know
abbrev pub closed : Extent → List Page → List Page
closed extent pages = filter is_used (map (uncounting extent) pages)
