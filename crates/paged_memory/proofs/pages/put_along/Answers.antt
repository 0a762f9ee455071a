-- The pages before the loop end below the written bytes, and those after it begin above them.
use Rattle.std.proofs.Common.{◌<◌, ap, arith, sym, refl, inl, inr, get_or, length}
use Rattle.paged_memory.specs.Pages.{page_range, overlaid_page}
use Rattle.paged_memory.specs.declared.types.Page.{Page}
use Rattle.image_memory.specs.laws.RangeLaws.{lows_rise}
use Rattle.paged_memory.proofs.ListLaws.{map_is, same_at}
use Rattle.paged_memory.proofs.PageLaws.{page_apart}
use Rattle.paged_memory.proofs.pages.put_along.Goals as goal

pub loop-i-init : goal.loop-i-init
loop-i-init c = record {
  bound = c.requires.first;
  same_length = refl;
  done = λ k d l.
      let m : k < length c.args.pages.now = let b = c.requires.first in omega arith in
      let full = c.requires.full k d m in
      let low = c.requires.below k d (omega arith) l in
      sym (page_apart c.args.start c.args.from.now (get_or c.args.pages.now k d) full (inl low));
  rest = λ k d l. refl;
}

pub returns-else-low-end : goal.returns-else-low-end
returns-else-low-end c =
    let loop = c.loop-i.invariant in
    let pages = c.args.pages.now in
    let i = c.loop-i.i in
    let seen = c.index-pages-i.result in
    let n : i < length pages = let e = loop.same_length in let l = c.loop-i-test.true in omega arith in
    map_is (overlaid_page c.args.start c.args.from.now) pages c.loop-i.pages i loop.same_length loop.done loop.rest
    (λ k d l m.
    let low = c.low.ensures.low in
    let over = c.if-low-end.false in
    let kept = ap (λ (p : Page). p.number) (loop.rest i seen (omega arith)) in
    let same = ap (λ (p : Page). p.number) (same_at pages i seen d n) in
    let rise = lows_rise page_range 0 pages c.requires.ascend i k d l m in
    let full = c.requires.full k d m in
    page_apart c.args.start c.args.from.now (get_or pages k d) full (inr (omega arith)))

pub returns-after-loop-i : goal.returns-after-loop-i
returns-after-loop-i c =
    let loop = c.loop-i.invariant in
    map_is (overlaid_page c.args.start c.args.from.now) c.args.pages.now c.loop-i.pages c.loop-i.i loop.same_length
    loop.done loop.rest
    (λ k d l m. absurd (omega (arith, loop.same_length)))
