-- A page has the number where it has a home.
use Rattle.std.proofs.Common.{◌≡◌, ◌*◌, Bool, true, false, not, Option, Some, None, List, [], ℕ, arith, sym, ap}
use Rattle.std.specs.Option.{is_some, MatchOption}
use Rattle.image_memory.specs.Ranges.{Ascends}
use Rattle.paged_memory.specs.declared.types.Page.{Page}
use Rattle.paged_memory.specs.Pages.{page_range, IsHome, IsNowhere}
use Rattle.paged_memory.specs.inside.Missing.{is_missing}
use Rattle.paged_memory.proofs.PageLaws.{page_here}
use Rattle.paged_memory.proofs.search.is_missing.Goals as goal

none : Page
none = record { number = 0; first = 0; last = 0; bytes = [] }

by_home : (pages : List Page) (n : ℕ) → Ascends page_range 0 pages → (home : Option ℕ)
    → MatchOption home (IsNowhere pages n) (IsHome pages n) → (b : Bool) → is_some home ≡ not b → b ≡ is_missing pages n
by_home pages n up None gone true e = sym (ap (λ (q : Option Page). not (is_some q)) (gone (4096 * n) (omega arith)))
by_home pages n up None gone false e = absurd (cc)
by_home pages n up (Some at) home true e = absurd (cc)
by_home pages n up (Some at) home false e =
    sym (ap (λ (q : Option Page). not (is_some q)) (page_here pages (4096 * n) n at none up home (omega arith)))

pub returns : goal.returns
returns c =
    by_home c.args.pages.now c.args.number c.requires c.home_of.result c.home_of.ensures c.is_none.result c.is_none.ensures
