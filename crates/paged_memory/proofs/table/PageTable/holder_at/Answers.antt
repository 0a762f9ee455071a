-- The extents that a page knows are those that can have an address of it.
use Rattle.std.proofs.Common.{◌≡◌, ℕ, ◌+◌, ◌-◌, ◌<◌, ◌*◌, arith, length, take, drop, ap}
use Rattle.std.proofs.Common.{List}
use Rattle.std.proofs.lemmas.List.{length-take, length-drop}
use Rattle.std.proofs.Common.{◌^◌}
use Rattle.image_memory.specs.laws.RangeLaws.{found_here}
use Rattle.paged_memory.specs.Pages.{extent_range, page_low}
use Rattle.paged_memory.specs.declared.types.Extent.{Extent}
use Rattle.paged_memory.proofs.ExtentLaws.{held_nowhere, get_or-part, page_of, Ascends-take, Ascends-drop}
use Rattle.paged_memory.proofs.table.PageTable.holder_at.Goals as goal

in_few : (es : List Extent) (i j k : ℕ) → k < length (take (j - i) (drop i es)) → k < j - i
in_few es i j k l = let m = simp (length-take, length-drop) at l in omega (arith, m)

pub offset_bounds-extents-page : goal.offset_bounds-extents-page
offset_bounds-extents-page c =
    let t' = c.args.self.now in
    let p = page_of t'.extents.items t'.pages.items c.args.at c.args.address c.index-page.result.now c.requires
    c.index-page.ensures t'.first t'.last t'.some in
    let few : length c.as_slice-extents.result.now * 12 < 2 ^ 63 = c.as_slice-extents.type_inv.1 in
    let same = ap (λ (es : List Extent). length es) c.as_slice-extents.ensures.value in
    let last = p.bound in
    let first = p.some in
    omega (arith, few, same, last, first)

pub slice_bounds-holder-end : goal.slice_bounds-holder-end
slice_bounds-holder-end c =
    let t' = c.args.self.now in
    let p = page_of t'.extents.items t'.pages.items c.args.at c.args.address c.index-page.result.now c.requires
    c.index-page.ensures t'.first t'.last t'.some in
    rw c.as_slice-extents.ensures.value p.bound

pub holder-requires : goal.holder-requires
holder-requires c =
    let t = c.args.self.now in
    let page = c.index-page.result.now in
    rw c.as_slice-extents.ensures.value
    (Ascends-take extent_range 0 (page.last - page.first) _ (Ascends-drop extent_range 0 page.first t.extents.items t.ascend))

pub returns-in_err-among : goal.returns-in_err-among
returns-in_err-among c =
    let t = c.args.self.now in
    let es = t.extents.items in
    let a = c.args.address in
    let page = c.index-page.result.now in
    let p = page_of t.extents.items t.pages.items c.args.at c.args.address c.index-page.result.now c.requires
    c.index-page.ensures t.first t.last t.some in
    let number = p.number in
    let misses = rw c.as_slice-extents.ensures.value at c.in_err-among.ensures in
    rw c.from_residual.ensures (held_nowhere es t.ascend (page_low page) (page_low page + 4096) a page.first page.last
    (omega arith) (omega arith) p.first p.last
    (λ k d f l m.
    let e : page.first + (k - page.first) ≡ k = omega arith in
    let in_part : k - page.first < length (take (page.last - page.first) (drop page.first es)) =
    simp (length-take, length-drop) (let b = p.bound in omega arith) in
    let miss = misses (k - page.first) d in_part in
    rw (get_or-part es page.first page.last (k - page.first) d (omega arith), e) at miss))

pub returns : goal.returns
returns c =
    let t = c.args.self.now in
    let es = t.extents.items in
    let a = c.args.address in
    let page = c.index-page.result.now in
    let among = c.in_ok-among.among in
    let p = page_of t.extents.items t.pages.items c.args.at c.args.address c.index-page.result.now c.requires
    c.index-page.ensures t.first t.last t.some in
    let bound = p.bound in
    let some = rw c.as_slice-extents.ensures.value at c.in_ok-among.ensures in
    let few : among < page.last - page.first = in_few es page.first page.last among some.within in
    let within : page.first + among < length es = omega arith in
    record {
      within = within;
      is = λ d. found_here extent_range 0 es a (page.first + among) d t.ascend within
          (rw (get_or-part es page.first page.last among d few) at (some.has d));
    }
