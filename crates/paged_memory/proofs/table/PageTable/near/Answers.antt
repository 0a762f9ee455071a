-- The first extent in the page is one of the extents.
use Rattle.std.proofs.Common.{◌+◌, ◌/◌, ◌≤◌, ◌<◌, ◌∙◌, List, length, arith, subst, refl}
use Rattle.paged_memory.specs.declared.types.Extent.{Extent}
use Rattle.paged_memory.specs.declared.types.Page.{Page}
use Rattle.paged_memory.specs.Pages.{IsHome}
use Rattle.paged_memory.proofs.ListLaws.{same_at}
use Rattle.paged_memory.proofs.ExtentLaws.{page_of}
use Rattle.paged_memory.proofs.table.PageTable.near.Goals as goal

pub index-requires-2 : goal.index-requires-2
index-requires-2 c =
    let t = c.args.self.now in
    let home = subst (λ (ps : List Page). IsHome ps (c.args.address / 4096) c.place-page.result) c.as_slice.ensures.value
    (c.if-not-has_number.ensures refl) in
    let p = page_of t.extents.items t.pages.items c.place-page.result c.args.address c.index.result.now home
    c.index.ensures t.first t.last t.some in
    let some = p.some in
    let bound = p.bound in
    omega (arith, t.extents.ok.0)

pub returns-then-has : goal.returns-then-has
returns-then-has c =
    let t = c.args.self.now in
    let es = t.extents.items in
    let at = c.index.result.now.first in
    let e = c.index-2.result.now in
    let home = subst (λ (ps : List Page). IsHome ps (c.args.address / 4096) c.place-page.result) c.as_slice.ensures.value
    (c.if-not-has_number.ensures refl) in
    let p = page_of t.extents.items t.pages.items c.place-page.result c.args.address c.index.result.now home
    c.index.ensures t.first t.last t.some in
    let n : at < length es = let some = p.some in let bound = p.bound in omega arith in
    let has = c.has.ensures c.if-has.true in
    record {
      page = home;
      within = rw c.from.ensures at (c.if-not-fits_page.ensures.0 refl);
      extent = n;
      low = λ d. subst (λ (x : Extent). x.base ≤ c.args.address) (c.index-2.ensures ∙ same_at es at e d n) has.0;
      high = λ d.
          subst (λ (x : Extent). c.args.address + c.args.count ≤ x.base + x.length) (c.index-2.ensures ∙ same_at es at e d n) has.1;
    }
