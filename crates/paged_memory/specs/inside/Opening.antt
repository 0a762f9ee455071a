-- New pages among those that there are.
use Rattle.std.specs.Prelude.{◌≡◌, ℕ, ◌+◌, ◌*◌, ◌≤◌, ◌<◌, ◌⊎◌, List, length, slice_index_or, IsSome, Some}
use Rattle.std.specs.List.{All, insert}
use Rattle.image_memory.specs.Ranges.{Ascends}
use Rattle.paged_memory.specs.declared.types.Extent.{Extent}
use Rattle.paged_memory.specs.declared.types.Page.{Page}
use Rattle.paged_memory.specs.Pages.{page_range, page_low, page_at, ended, begun, IsHome, IsGap}

-- pages in order, each of which knows which of the extents can have an address of it
pub record AreLaid (extents : List Extent) (pages : List Page) : Type 0 where
  pub sorted : Ascends page_range 0 pages
  pub below : All (λ page. (page_range page).high ≤ 0xFFFF_0000) pages
  pub full : All (λ page. length page.bytes ≡ 4096) pages
  pub first : All (λ page. page.first ≡ ended (page_low page) extents) pages
  pub last : All (λ page. page.last ≡ begun (page_low page + 4096) extents) pages

-- the pages before a place have lower numbers, and those from it on this number or higher ones
pub record IsPlaceOf (pages : List Page) (number at : ℕ) : Type 0 where
  pub bound : at ≤ length pages
  pub before : (k : ℕ) (d : Page) → k < at → (slice_index_or pages k d).number < number
  pub from : (k : ℕ) (d : Page) → at ≤ k → k < length pages → number ≤ (slice_index_or pages k d).number

-- a new page of a number was put at its place
pub record IsInserted (extents : List Extent) (old new : List Page) (number at : ℕ) : Type 0 where
  pub page : Page
  pub is : new ≡ insert old at page
  pub number_is : page.number ≡ number
  pub full : length page.bytes ≡ 4096
  pub first : page.first ≡ begun (4096 * number) extents
  pub last : page.last ≡ begun (4096 * number) extents
  pub gap : IsGap old number at

-- there is a page of a number, as before or a new one
abbrev pub IsOpened : List Extent → List Page → List Page → ℕ → ℕ → Type 0
IsOpened extents old new number at = ((new ≡ old) × IsHome old number at) ⊎ IsInserted extents old new number at

-- the pages that there were, and one for each number from one up to another
pub record IsOpenTo (extents : List Extent) (old new : List Page) (low end : ℕ) : Type 0 where
  pub laid : AreLaid extents new
  pub kept : (address : ℕ) (page : Page) → page_at old address ≡ Some page → page_at new address ≡ Some page
  pub there : (address : ℕ) → 4096 * low ≤ address → address < 4096 * end → IsSome (page_at new address)
  pub each : All (λ page. ((low ≤ page.number) × (page.number < end) × (page.first ≤ page.last)) ⊎ (page.first < page.last)) new
