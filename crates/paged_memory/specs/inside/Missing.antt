-- How many pages pieces need that aren't there.
use Rattle.std.specs.Prelude.{ℕ, zero, suc, ◌+◌, ◌-◌, ◌*◌, ◌/◌, Bool, ◌&&◌, List, [], ◌∷◌, is_none, if◌then◌else◌}
use Rattle.std.specs.List.{list_any}
use Rattle.ks_base.specs.declared.places.Range.{Range}
use Rattle.image_memory.specs.Ranges.{from_to, meets}
use Rattle.paged_memory.specs.declared.types.Page.{Page}
use Rattle.paged_memory.specs.Pages.{page_at}

-- whether a range has an address of the page of a number
abbrev pub has_page : ℕ → Range → Bool
has_page number range = meets range (from_to (4096 * number) (4096 * number + 4096))

-- whether no page has a number
abbrev pub is_missing : List Page → ℕ → Bool
is_missing pages number = is_none (page_at pages (4096 * number))

-- whether ranges need a page of a number, and none has it
abbrev pub is_needed : List Range → List Page → ℕ → Bool
is_needed ranges pages number = list_any (has_page number) ranges && is_missing pages number

-- how many numbers below one pass a test
unfoldable pub count_below : (ℕ → Bool) → ℕ → ℕ
count_below test zero = 0
count_below test (suc n) = if test n then count_below test n + 1 else count_below test n

-- how many pages ranges need that aren't there, of the 2^20 that there can be
unfoldable pub missing : List Range → List Page → ℕ
missing ranges pages = count_below (is_needed ranges pages) 1048576

-- n numbers in order from one on
unfoldable pub count_up : ℕ → ℕ → List ℕ
count_up first zero = []
count_up first (suc n) = first ∷ count_up (first + 1) n

-- the numbers of the pages of which a range, which isn't empty, has an address
abbrev pub numbers_in : Range → List ℕ
numbers_in range = count_up (range.low / 4096) ((range.high - 1) / 4096 + 1 - range.low / 4096)
