-- Pages of bytes, and the pieces that stand in them.
use Rattle.std.specs.Prelude.{◌≡◌, ℕ, zero, suc, ◌+◌, ◌-◌, ◌*◌, ◌/◌, ◌%◌, ◌≤◌, ◌<◌, Bool, true, false, List, [], ◌∷◌, map, length}
use Rattle.std.specs.Prelude.{Option, Some, None, slice_index, slice_index_or, nat_le, nat_lt, IsSome, IsNone, if◌then◌else◌}
use Rattle.std.specs.Option.{option_map, unwrap_or}
use Rattle.std.specs.List.{find, filter}
use Rattle.ks_base.specs.declared.places.Range.{Range}
use Rattle.image_memory.specs.Ranges.{lies_in}
use Rattle.ks_base.specs.declared.refusals.Fault.{Fault}
use Rattle.image_memory.specs.Access.{access_fault, first_fault, overlaid}
use Rattle.image_memory.specs.declared.types.Access.{Access}
use Rattle.image_memory.specs.declared.types.Kind.{Kind}
use Rattle.image_memory.specs.declared.types.Piece.{Piece}
use Rattle.paged_memory.specs.declared.types.Extent.{Extent}
use Rattle.paged_memory.specs.declared.types.Page.{Page}
use Rattle.paged_memory.specs.declared.types.Spot.{Spot}

abbrev pub extent_range : Extent → Range
extent_range e = record { low = e.base; high = e.base + e.length }

-- where a piece lies
abbrev pub extent_of : Piece → Extent
extent_of piece = record { kind = piece.kind; base = piece.base; length = length piece.bytes }

-- the first address of a page, and its addresses
abbrev pub page_low : Page → ℕ
page_low page = 4096 * page.number

abbrev pub page_range : Page → Range
page_range page = record { low = page_low page; high = page_low page + 4096 }

-- the extent and the page that have an address
abbrev pub extent_at : List Extent → ℕ → Option Extent
extent_at extents address = find (λ e. lies_in address (extent_range e)) extents

abbrev pub page_at : List Page → ℕ → Option Page
page_at pages address = find (λ page. lies_in address (page_range page)) pages

abbrev pub kind_of_extent : Extent → Kind
kind_of_extent e = e.kind

-- why the byte at an address can't be used
abbrev pub extent_fault : Access → List Extent → ℕ → Option Fault
extent_fault access extents address = access_fault access (option_map kind_of_extent (extent_at extents address))

abbrev pub byte_of : ℕ → Page → ℕ
byte_of address page = slice_index page.bytes (address - page_low page)

-- the byte that pages have at an address, 0 where they have none
unfoldable pub stored : List Page → ℕ → ℕ
stored pages address = unwrap_or (option_map (byte_of address) (page_at pages address)) 0

-- the n bytes from an address on
unfoldable pub stored_from : List Page → ℕ → ℕ → List ℕ
stored_from pages address zero = []
stored_from pages address (suc n) = stored pages address ∷ stored_from pages (address + 1) n

-- the piece at an extent, with the bytes that pages have there
abbrev pub piece_of : List Page → Extent → Piece
piece_of pages e = record { kind = e.kind; base = e.base; bytes = stored_from pages e.base e.length }

abbrev pub pieces_of : List Extent → List Page → List Piece
pieces_of extents pages = map (piece_of pages) extents

-- whether an extent ends at or below an address, and whether it begins below it
abbrev pub ends_by : ℕ → Extent → Bool
ends_by address e = nat_le (e.base + e.length) address

abbrev pub begins_below : ℕ → Extent → Bool
begins_below address e = nat_lt e.base address

-- how many extents end at or below an address, and how many begin below it
abbrev pub ended : ℕ → List Extent → ℕ
ended address extents = length (filter (ends_by address) extents)

abbrev pub begun : ℕ → List Extent → ℕ
begun address extents = length (filter (begins_below address) extents)

-- the page of a number is at a place
pub record IsHome (pages : List Page) (number at : ℕ) : Type 0 where
  pub within : at < length pages
  pub is : (d : Page) → (slice_index_or pages at d).number ≡ number

-- no page has an address of the page of a number
abbrev pub IsNowhere : List Page → ℕ → Type 0
IsNowhere pages number = (address : ℕ) → address / 4096 ≡ number → page_at pages address ≡ None

-- no page has a number, and a place is the one that its page would have
pub record IsGap (pages : List Page) (number at : ℕ) : Type 0 where
  pub bound : at ≤ length pages
  pub before : (k : ℕ) (d : Page) → k < at → (slice_index_or pages k d).number < number
  pub above : (k : ℕ) (d : Page) → at ≤ k → k < length pages → number < (slice_index_or pages k d).number

-- no extent has an address
abbrev pub HoldsNone : List Extent → ℕ → Type 0
HoldsNone extents address = (k : ℕ) (d : Extent) → k < length extents
    → lies_in address (extent_range (slice_index_or extents k d)) ≡ false

-- the extent at a place has an address
pub record Holds (extents : List Extent) (address at : ℕ) : Type 0 where
  pub within : at < length extents
  pub has : (d : Extent) → lies_in address (extent_range (slice_index_or extents at d)) ≡ true

-- the extent that has an address is at a place
pub record IsHolder (extents : List Extent) (address at : ℕ) : Type 0 where
  pub within : at < length extents
  pub is : (d : Extent) → extent_at extents address ≡ Some (slice_index_or extents at d)

-- where an address is found: the places of its page and of the extent that has it
pub record IsSpot (extents : List Extent) (pages : List Page) (address : ℕ) (spot : Spot) : Type 0 where
  pub page : IsHome pages (address / 4096) spot.page
  pub extent : IsHolder extents address spot.extent

-- so many bytes from an address on stand in one page and in one extent, at these places
pub record IsNear (extents : List Extent) (pages : List Page) (address count : ℕ) (spot : Spot) : Type 0 where
  pub page : IsHome pages (address / 4096) spot.page
  pub within : address % 4096 + count ≤ 4096
  pub extent : spot.extent < length extents
  pub low : (d : Extent) → (slice_index_or extents spot.extent d).base ≤ address
  pub high : (d : Extent) → address + count ≤ (extent_range (slice_index_or extents spot.extent d)).high

-- each address of an extent is one of a page
abbrev pub IsCovered : List Extent → List Page → Type 0
IsCovered extents pages = (address : ℕ) → IsNone (page_at pages address) → IsNone (extent_at extents address)

-- pages have so many bytes from an address on
abbrev pub AreStored : List Page → ℕ → ℕ → Type 0
AreStored pages address count = (k : ℕ) → k < count → IsSome (page_at pages (address + k))

-- a page after bytes were written from start on
abbrev pub overlaid_page : ℕ → List ℕ → Page → Page
overlaid_page start bytes page = record page { bytes = overlaid start bytes (page_low page) page.bytes }

-- a page after an extent was added to those that it knows, and after one was taken from them
abbrev pub counting : Extent → Page → Page
counting e page = record page {
  first = if ends_by (page_low page) e then page.first + 1 else page.first;
  last = if begins_below (page_low page + 4096) e then page.last + 1 else page.last;
}

abbrev pub uncounting : Extent → Page → Page
uncounting e page = record page {
  first = if ends_by (page_low page) e then page.first - 1 else page.first;
  last = if begins_below (page_low page + 4096) e then page.last - 1 else page.last;
}

-- so many bytes from an address on can be used, and the pages before a place end at or below it
pub record IsUsable (access : Access) (extents : List Extent) (pages : List Page) (address count at : ℕ) : Type 0 where
  pub good : first_fault (extent_fault access extents) address count ≡ None
  pub bound : at ≤ length pages
  pub below : (k : ℕ) (d : Page) → k < at → (page_range (slice_index_or pages k d)).high ≤ address
  pub home : 0 < count → IsHome pages (address / 4096) at
