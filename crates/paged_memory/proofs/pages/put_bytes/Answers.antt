-- The other pages end at or below the written bytes, or begin above them.
use Rattle.std.proofs.Common.{◌∙◌, ap, arith, inl, inr, get_or}
use Rattle.paged_memory.specs.Pages.{overlaid_page}
use Rattle.paged_memory.proofs.ListLaws.{set_is, same_at}
use Rattle.paged_memory.proofs.PageLaws.{page_apart, numbers_rise}
use Rattle.paged_memory.proofs.UseLaws.{home_below}
use Rattle.paged_memory.proofs.pages.put_bytes.Goals as goal

pub returns-then-has_number : goal.returns-then-has_number
returns-then-has_number c =
    let pages = c.args.pages.now in
    let start = c.args.start in
    let at = c.args.first in
    let changed = overlaid_page start c.args.from.now in
    let home = c.has_number.ensures c.if-has_number.true in
    let within = c.fits_page.ensures.0 c.if-fits_page.true in
    set_is changed pages at c.put.new.self home.within
    (λ d. c.put.ensures ∙ ap changed (same_at pages at c.index-pages-first.result d home.within))
    (λ k d side l. page_apart start c.args.from.now (get_or pages k d) (c.requires.full k d l) (elim side [
      | inl before ↦ inl (home_below pages start at k d c.requires.ascend home before)
      | inr behind ↦
          let rise = numbers_rise pages at k d c.requires.ascend behind l in
          let number = home.is d in
          inr (omega arith)
    ]))
