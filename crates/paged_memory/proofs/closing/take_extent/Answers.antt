-- Before the extent of a base stand those that begin below it.
use Rattle.std.proofs.Common.{◌≡◌, ◌<◌, ◌∙◌, arith, sym, ap, length, get_or}
use Rattle.paged_memory.specs.declared.types.Extent.{Extent}
use Rattle.paged_memory.proofs.ListLaws.{same_at}
use Rattle.paged_memory.proofs.RemoveLaws.{place_is}
use Rattle.paged_memory.proofs.closing.take_extent.Goals as goal

place : (c : goal.After-remove) → c.begun-at.result ≡ c.requires.there.0
place c =
    let es = c.args.extents.now.items in
    let value = c.as_slice.ensures.value in
    let there = c.requires.there in
    place_is es c.args.base c.begun-at.result there.0 there.1 c.requires.ascend there.2 there.3 there.4
    (λ k d l m. let h = (rw value at c.begun-at.ensures.below) k d l m in let from = c.from.ensures in omega arith)
    (λ k d l m. let h = (rw value at c.begun-at.ensures.above) k d l m in let from = c.from.ensures in omega arith)

pub returns : goal.returns
returns c =
    let es = c.args.extents.now.items in
    let there = c.requires.there in
    let n = place c in
    let value = c.remove.ensures.value in
    let l : c.begun-at.result < length es = let m = there.2 in omega (arith, n, m) in
    record {
      at = c.begun-at.result;
      within = l;
      is = λ d. same_at es c.begun-at.result d c.remove.result l ∙ sym value;
      base_is = ap (λ (x : Extent). x.base) (value ∙ (same_at es c.begun-at.result c.remove.result there.1 l
          ∙ (ap (λ k. get_or es k there.1) n ∙ there.3))) ∙ there.4;
      left = c.remove.ensures.items;
    }
