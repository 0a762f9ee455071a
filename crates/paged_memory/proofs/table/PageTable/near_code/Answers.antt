-- The code from an address on is what its page has there.
use Rattle.std.proofs.Common.{◌≡◌, ◌+◌, ◌∙◌, sym, ap, arith, Some}
use Rattle.image_memory.specs.laws.RangeLaws.{found_here, within}
use Rattle.paged_memory.specs.Pages.{extent_range, extent_at}
use Rattle.paged_memory.specs.declared.types.Extent.{Extent}
use Rattle.paged_memory.proofs.WindowLaws.{window_code}
use Rattle.paged_memory.proofs.table.PageTable.near_code.Goals as goal

pub returns-in-Code-clause-exact : goal.returns-in-Code-clause-exact
returns-in-Code-clause-exact c =
    let t = c.args.self.now in
    let es = t.extents.items in
    let pc = c.args.pc in
    let near = c.in_ok-spot.ensures in
    let e = c.index.result.now in
    let low = near.low e in
    let high = near.high e in
    let is : extent_at es pc ≡ Some e = found_here extent_range 0 es pc c.in_ok-spot.spot.extent e t.ascend near.extent
    (within pc _ (omega arith) (omega arith)) ∙ ap (λ (x : Extent). Some x) (sym c.index.ensures) in
    let limit = c.if-limit-ne-WINDOW_LENGTH.false in
    let at = ap (λ (x : Extent). x.base + x.length) c.index.ensures in
    window_code es t.pages.items c.args.retired.now.fences pc c.in_ok-limit.limit 15 e c.in_ok-limit.ensures.limit is
    c.in-Code.is (omega (arith, limit, at))
