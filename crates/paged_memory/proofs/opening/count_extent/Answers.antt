-- The pages before the loop end below the extent.
use Rattle.std.proofs.Common.{◌<◌, ap, arith, sym, refl, get_or, length}
use Rattle.paged_memory.specs.Pages.{counting}
use Rattle.paged_memory.specs.declared.types.Page.{Page}
use Rattle.paged_memory.proofs.ListLaws.{map_is}
use Rattle.paged_memory.proofs.PageLaws.{uncounted}
use Rattle.paged_memory.proofs.opening.count_extent.Goals as goal

pub loop-i-init : goal.loop-i-init
loop-i-init c = record {
  bound = c.requires.first;
  same_length = refl;
  done = λ k d l. sym (uncounted c.args.extent (get_or c.args.pages.now k d) c.requires.some (c.requires.below k d (omega arith) l));
  rest = λ k d l. refl;
}

pub count-requires-clause-last : goal.count-requires-clause-last
count-requires-clause-last c =
    let loop = c.loop-i.invariant in
    let seen = c.index-pages-i.result in
    let n : c.loop-i.i < length c.args.pages.now = let t = c.loop-i-test.true in omega (arith, loop.same_length) in
    let few = (c.requires.few c.loop-i.i seen n).1 in
    let kept = ap (λ (p : Page). p.last) (loop.rest c.loop-i.i seen (omega arith)) in
    omega (arith, few, kept)

pub count-requires-clause-first : goal.count-requires-clause-first
count-requires-clause-first c =
    let loop = c.loop-i.invariant in
    let seen = c.index-pages-i.result in
    let n : c.loop-i.i < length c.args.pages.now = let t = c.loop-i-test.true in omega (arith, loop.same_length) in
    let few = (c.requires.few c.loop-i.i seen n).0 in
    let kept = ap (λ (p : Page). p.first) (loop.rest c.loop-i.i seen (omega arith)) in
    omega (arith, few, kept)

pub returns : goal.returns
returns c =
    let loop = c.loop-i.invariant in
    map_is (counting c.args.extent) c.args.pages.now c.loop-i.pages c.loop-i.i loop.same_length loop.done loop.rest
    (λ k d l m. absurd (let t = c.loop-i-test.false in omega (arith, loop.same_length)))
