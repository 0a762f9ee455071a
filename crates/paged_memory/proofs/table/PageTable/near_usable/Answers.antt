-- Each byte of the extent is as good as the others.
use Rattle.std.proofs.Common.{◌≡◌, ◌+◌, ◌∙◌, arith, sym, ap, None, Some}
use Rattle.image_memory.specs.Access.{access_fault}
use Rattle.image_memory.specs.laws.RangeLaws.{found_here, within}
use Rattle.image_memory.specs.laws.AccessLaws.{all_good}
use Rattle.paged_memory.specs.declared.types.Extent.{Extent}
use Rattle.paged_memory.specs.Pages.{extent_at, extent_fault, extent_range}
use Rattle.paged_memory.proofs.UseLaws.{home_below}
use Rattle.paged_memory.proofs.table.PageTable.near_usable.Goals as goal

pub returns-in-None-clause-usable : goal.returns-in-None-clause-usable
returns-in-None-clause-usable c =
    let t = c.args.self.now in
    let es = t.extents.items in
    let a = c.args.address in
    let spot = c.in_ok-spot.spot in
    let near = c.in_ok-spot.ensures in
    let e = c.index.result.now in
    let good : access_fault c.args.access (Some e.kind) ≡ None = sym c.fault.ensures ∙ c.in-None.is in
    record {
      good = all_good (extent_fault c.args.access es) a c.args.count (λ k l.
          let low = near.low e in
          let high = near.high e in
          let held : extent_at es (a + k) ≡ Some e = found_here extent_range 0 es (a + k) spot.extent e t.ascend near.extent
          (within (a + k) _ (omega arith) (omega arith)) ∙ ap (λ (x : Extent). Some x) (sym c.index.ensures) in
          rw held good);
      bound = let l = near.page.within in omega arith;
      below = λ k d l. home_below t.pages.items a spot.page k d t.sorted near.page l;
      home = λ l. near.page;
    }
