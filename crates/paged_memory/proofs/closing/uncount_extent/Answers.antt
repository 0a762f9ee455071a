-- The pages before the loop end below the extent.
use Rattle.std.proofs.Common.{◌≤◌, ◌<◌, ◌+◌, arith, sym, subst, refl, get_or, length}
use Rattle.paged_memory.specs.Pages.{extent_range, page_low, uncounting}
use Rattle.paged_memory.specs.declared.types.Page.{Page}
use Rattle.paged_memory.proofs.ListLaws.{map_is}
use Rattle.paged_memory.proofs.RemoveLaws.{not_counted}
use Rattle.paged_memory.proofs.closing.uncount_extent.Goals as goal

pub loop-i-init : goal.loop-i-init
loop-i-init c = record {
  bound = c.requires.first;
  same_length = refl;
  done = λ k d l. sym (not_counted c.args.extent (get_or c.args.pages.now k d) c.requires.some
      (c.requires.below k d (omega arith) l));
  rest = λ k d l. refl;
}

pub uncount-requires-clause-first : goal.uncount-requires-clause-first
uncount-requires-clause-first c =
    let loop = c.loop-i.invariant in
    let seen = c.index-pages-i.result in
    let n : c.loop-i.i < length c.args.pages.now = let t = c.loop-i-test.true in omega (arith, loop.same_length) in
    let kept = sym (loop.rest c.loop-i.i seen (omega arith)) in
    subst (λ (p : Page). (extent_range c.args.extent).high ≤ page_low p → 0 < p.first) kept
    (c.requires.counted c.loop-i.i seen n).0

pub uncount-requires-clause-last : goal.uncount-requires-clause-last
uncount-requires-clause-last c =
    let loop = c.loop-i.invariant in
    let seen = c.index-pages-i.result in
    let n : c.loop-i.i < length c.args.pages.now = let t = c.loop-i-test.true in omega (arith, loop.same_length) in
    let kept = sym (loop.rest c.loop-i.i seen (omega arith)) in
    subst (λ (p : Page). c.args.extent.base < page_low p + 4096 → 0 < p.last) kept
    (c.requires.counted c.loop-i.i seen n).1

pub returns : goal.returns
returns c =
    let loop = c.loop-i.invariant in
    map_is (uncounting c.args.extent) c.args.pages.now c.loop-i.pages c.loop-i.i loop.same_length loop.done loop.rest
    (λ k d l m. absurd (let t = c.loop-i-test.false in omega (arith, loop.same_length)))
