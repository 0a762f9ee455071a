-- No page has an address of the page of a number where its place is a gap.
use Rattle.std.proofs.Common.{sym}
use Rattle.paged_memory.proofs.PageLaws.{page_nowhere}
use Rattle.paged_memory.proofs.search.home_of.Goals as goal

pub returns-else-is_at : goal.returns-else-is_at
returns-else-is_at c = λ address is.
    page_nowhere c.args.pages.now address c.args.number c.place_of-at.result c.if-is_at.ensures (sym is)
