-- What the extents and pages make up then.
use Rattle.std.proofs.Common.{◌≡◌, ◌+◌, ◌-◌, ◌*◌, ◌/◌, ◌≤◌, ◌<◌, ◌^◌, List, arith, sym, subst, length, get_or, ap, ◌∙◌}
use Rattle.std.specs.List.{All, Contains}
use Rattle.std.specs.Vec.{with_items}
use Rattle.image_memory.specs.Ranges.{Ascends, put_in}
use Rattle.image_memory.specs.laws.PutLaws.{All-put, Ascends-put}
use Rattle.paged_memory.specs.Pages.{extent_range, extent_of, page_range, page_low, pieces_of, ended, begun, ends_by, begins_below, IsCovered}
use Rattle.paged_memory.specs.inside.Missing.{missing}
use Rattle.paged_memory.specs.inside.Opening.{IsPlaceOf, IsOpenTo}
use Rattle.ks_base.specs.declared.places.Range.{Range}
use Rattle.paged_memory.specs.declared.types.Page.{Page}
use Rattle.paged_memory.specs.declared.types.Extent.{Extent}
use Rattle.paged_memory.proofs.ListLaws.{length-filter-le}
use Rattle.paged_memory.proofs.AddLaws.{added, vec_added, added-sorted, added-below, added-full, added-first, added-last, added-some}
use Rattle.paged_memory.proofs.AddLaws.{added-covered, added-missing, added-pieces}
use Rattle.paged_memory.proofs.table.PageTable.add.Goals as goal

pub lay-requires-clause-first : goal.lay-requires-clause-first
lay-requires-clause-first c =
    let bound = c.place_of-first.ensures.bound in
    let one = ap length c.as_slice.ensures.value in
    let other = ap length c.as_mut_slice.ensures.value in
    omega (arith, bound, one, other)

pub lay-requires-clause-below : goal.lay-requires-clause-below
lay-requires-clause-below c =
    let P = λ (ps : List Page). IsPlaceOf ps (c.of-extent.result.base / 4096) c.place_of-first.result in
    let place = subst P c.as_slice.ensures.value c.place_of-first.ensures in
    rw c.as_mut_slice.ensures.value (λ k d l m. let b = place.before k d m in omega arith)

pub lay-requires-clause-few : goal.lay-requires-clause-few
lay-requires-clause-few c =
    let es = c.as_slice-extents.result.now in
    let laid = c.open_pages.ensures.open.laid in
    let few : length es * 12 < 2 ^ 63 = c.as_slice-extents.type_inv.1 in
    rw c.as_mut_slice.ensures.value (λ k d l.
    let p = get_or c.open_pages.new.pages.items k d in
    let first = laid.first k d l in
    let last = laid.last k d l in
    let one = length-filter-le (ends_by (page_low p)) es in
    let other = length-filter-le (begins_below (page_low p + 4096)) es in
    (omega (arith, first, one, few), omega (arith, last, other, few)))

pub returns-clause-pieces : goal.returns-clause-pieces
returns-clause-pieces c =
    let t = c.args.self.now in
    let P = λ (r : Range). IsOpenTo t.extents.items t.pages.items c.open_pages.new.pages.items (r.low / 4096) ((r.high - 1) / 4096 + 1) in
    ap (pieces_of c.put_extent.new.extents.items) (vec_added c.open_pages.new.pages c.lay.new.pages c.as_mut_slice.result.now c.of-extent.result c.as_slice-2.result.now
    c.args.piece.now c.lay.auto.pages c.lay.ensures c.as_mut_slice.ensures.value c.of-extent.ensures c.as_slice-2.ensures)
    ∙ (ap (λ (es : List Extent). pieces_of es (added c.args.piece.now c.open_pages.new.pages.items)) (c.put_extent.ensures.items ∙ ap (λ (x : Extent). put_in extent_range x c.args.self.now.extents.items) c.of-extent.ensures)
    ∙ added-pieces t.extents.items t.pages.items c.open_pages.new.pages.items c.args.piece.now t.ascend t.covered
    (subst P c.range-range.ensures (rw c.as_slice-extents.ensures.value at c.open_pages.ensures.open)) c.requires.full c.requires.apart)

pub returns-clause-blocks : goal.returns-clause-blocks
returns-clause-blocks c = λ ranges in_ranges enough.
    let P = λ (r : Range). Contains ranges r in
    let still = c.open_pages.ensures.blocks ranges (subst P (sym c.range-range.ensures) in_ranges) enough in
    let same = ap (missing ranges) (vec_added c.open_pages.new.pages c.lay.new.pages c.as_mut_slice.result.now c.of-extent.result c.as_slice-2.result.now
    c.args.piece.now c.lay.auto.pages c.lay.ensures c.as_mut_slice.ensures.value c.of-extent.ensures c.as_slice-2.ensures)
    ∙ added-missing ranges c.args.piece.now c.open_pages.new.pages.items in
    omega (arith, same, still)

pub invariant_of-self-clause-ascend : goal.invariant_of-self-clause-ascend
invariant_of-self-clause-ascend c =
    let t = c.args.self.now in
    subst (λ (es : List Extent). Ascends extent_range 0 es) (sym (c.put_extent.ensures.items ∙ ap (λ (x : Extent). put_in extent_range x c.args.self.now.extents.items) c.of-extent.ensures))
    (Ascends-put extent_range 0 (extent_of c.args.piece.now) t.extents.items (omega arith) (let f = c.requires.full in omega arith) c.requires.apart t.ascend)

pub invariant_of-self-clause-end_below : goal.invariant_of-self-clause-end_below
invariant_of-self-clause-end_below c =
    let t = c.args.self.now in
    subst (λ (es : List Extent). All (λ e. (extent_range e).high ≤ 0xFFFF_0000) es) (sym (c.put_extent.ensures.items ∙ ap (λ (x : Extent). put_in extent_range x c.args.self.now.extents.items) c.of-extent.ensures))
    (All-put extent_range (λ e. (extent_range e).high ≤ 0xFFFF_0000) (extent_of c.args.piece.now) t.extents.items c.requires.below t.end_below)

pub invariant_of-self-clause-sorted : goal.invariant_of-self-clause-sorted
invariant_of-self-clause-sorted c =
    let t = c.args.self.now in
    let P = λ (r : Range). IsOpenTo t.extents.items t.pages.items c.open_pages.new.pages.items (r.low / 4096) ((r.high - 1) / 4096 + 1) in
    subst (λ (ps : List Page). Ascends page_range 0 ps) (sym (vec_added c.open_pages.new.pages c.lay.new.pages c.as_mut_slice.result.now c.of-extent.result c.as_slice-2.result.now
    c.args.piece.now c.lay.auto.pages c.lay.ensures c.as_mut_slice.ensures.value c.of-extent.ensures c.as_slice-2.ensures)) (added-sorted t.extents.items t.pages.items c.open_pages.new.pages.items c.args.piece.now t.ascend t.covered
    (subst P c.range-range.ensures (rw c.as_slice-extents.ensures.value at c.open_pages.ensures.open)) c.requires.full c.requires.apart)

pub invariant_of-self-clause-pages_below : goal.invariant_of-self-clause-pages_below
invariant_of-self-clause-pages_below c =
    let t = c.args.self.now in
    let P = λ (r : Range). IsOpenTo t.extents.items t.pages.items c.open_pages.new.pages.items (r.low / 4096) ((r.high - 1) / 4096 + 1) in
    subst (λ (ps : List Page). All (λ p. (page_range p).high ≤ 0xFFFF_0000) ps) (sym (vec_added c.open_pages.new.pages c.lay.new.pages c.as_mut_slice.result.now c.of-extent.result c.as_slice-2.result.now
    c.args.piece.now c.lay.auto.pages c.lay.ensures c.as_mut_slice.ensures.value c.of-extent.ensures c.as_slice-2.ensures)) (added-below t.extents.items t.pages.items c.open_pages.new.pages.items c.args.piece.now t.ascend t.covered
    (subst P c.range-range.ensures (rw c.as_slice-extents.ensures.value at c.open_pages.ensures.open)) c.requires.full c.requires.apart)

pub invariant_of-self-clause-full : goal.invariant_of-self-clause-full
invariant_of-self-clause-full c =
    let t = c.args.self.now in
    let P = λ (r : Range). IsOpenTo t.extents.items t.pages.items c.open_pages.new.pages.items (r.low / 4096) ((r.high - 1) / 4096 + 1) in
    subst (λ (ps : List Page). All (λ p. length p.bytes ≡ 4096) ps) (sym (vec_added c.open_pages.new.pages c.lay.new.pages c.as_mut_slice.result.now c.of-extent.result c.as_slice-2.result.now
    c.args.piece.now c.lay.auto.pages c.lay.ensures c.as_mut_slice.ensures.value c.of-extent.ensures c.as_slice-2.ensures)) (added-full t.extents.items t.pages.items c.open_pages.new.pages.items c.args.piece.now t.ascend t.covered
    (subst P c.range-range.ensures (rw c.as_slice-extents.ensures.value at c.open_pages.ensures.open)) c.requires.full c.requires.apart)

pub invariant_of-self-clause-first : goal.invariant_of-self-clause-first
invariant_of-self-clause-first c =
    let t = c.args.self.now in
    let P = λ (r : Range). IsOpenTo t.extents.items t.pages.items c.open_pages.new.pages.items (r.low / 4096) ((r.high - 1) / 4096 + 1) in
    subst (λ (es : List Extent). All (λ p. p.first ≡ ended (page_low p) es) (with_items c.open_pages.new.pages c.lay.new.pages).items) (sym (c.put_extent.ensures.items ∙ ap (λ (x : Extent). put_in extent_range x c.args.self.now.extents.items) c.of-extent.ensures))
    (subst (λ (ps : List Page). All (λ p. p.first ≡ ended (page_low p) (put_in extent_range (extent_of c.args.piece.now) t.extents.items)) ps) (sym (vec_added c.open_pages.new.pages c.lay.new.pages c.as_mut_slice.result.now c.of-extent.result c.as_slice-2.result.now
    c.args.piece.now c.lay.auto.pages c.lay.ensures c.as_mut_slice.ensures.value c.of-extent.ensures c.as_slice-2.ensures)) (added-first t.extents.items t.pages.items c.open_pages.new.pages.items c.args.piece.now t.ascend t.covered
    (subst P c.range-range.ensures (rw c.as_slice-extents.ensures.value at c.open_pages.ensures.open)) c.requires.full c.requires.apart))

pub invariant_of-self-clause-last : goal.invariant_of-self-clause-last
invariant_of-self-clause-last c =
    let t = c.args.self.now in
    let P = λ (r : Range). IsOpenTo t.extents.items t.pages.items c.open_pages.new.pages.items (r.low / 4096) ((r.high - 1) / 4096 + 1) in
    subst (λ (es : List Extent). All (λ p. p.last ≡ begun (page_low p + 4096) es) (with_items c.open_pages.new.pages c.lay.new.pages).items) (sym (c.put_extent.ensures.items ∙ ap (λ (x : Extent). put_in extent_range x c.args.self.now.extents.items) c.of-extent.ensures))
    (subst (λ (ps : List Page). All (λ p. p.last ≡ begun (page_low p + 4096) (put_in extent_range (extent_of c.args.piece.now) t.extents.items)) ps) (sym (vec_added c.open_pages.new.pages c.lay.new.pages c.as_mut_slice.result.now c.of-extent.result c.as_slice-2.result.now
    c.args.piece.now c.lay.auto.pages c.lay.ensures c.as_mut_slice.ensures.value c.of-extent.ensures c.as_slice-2.ensures)) (added-last t.extents.items t.pages.items c.open_pages.new.pages.items c.args.piece.now t.ascend t.covered
    (subst P c.range-range.ensures (rw c.as_slice-extents.ensures.value at c.open_pages.ensures.open)) c.requires.full c.requires.apart))

pub invariant_of-self-clause-some : goal.invariant_of-self-clause-some
invariant_of-self-clause-some c =
    let t = c.args.self.now in
    let P = λ (r : Range). IsOpenTo t.extents.items t.pages.items c.open_pages.new.pages.items (r.low / 4096) ((r.high - 1) / 4096 + 1) in
    subst (λ (ps : List Page). All (λ p. p.first < p.last) ps) (sym (vec_added c.open_pages.new.pages c.lay.new.pages c.as_mut_slice.result.now c.of-extent.result c.as_slice-2.result.now
    c.args.piece.now c.lay.auto.pages c.lay.ensures c.as_mut_slice.ensures.value c.of-extent.ensures c.as_slice-2.ensures)) (added-some t.extents.items t.pages.items c.open_pages.new.pages.items c.args.piece.now t.ascend t.covered
    (subst P c.range-range.ensures (rw c.as_slice-extents.ensures.value at c.open_pages.ensures.open)) c.requires.full c.requires.apart)

pub invariant_of-self-clause-covered : goal.invariant_of-self-clause-covered
invariant_of-self-clause-covered c =
    let t = c.args.self.now in
    let P = λ (r : Range). IsOpenTo t.extents.items t.pages.items c.open_pages.new.pages.items (r.low / 4096) ((r.high - 1) / 4096 + 1) in
    subst (λ (es : List Extent). IsCovered es (with_items c.open_pages.new.pages c.lay.new.pages).items) (sym (c.put_extent.ensures.items ∙ ap (λ (x : Extent). put_in extent_range x c.args.self.now.extents.items) c.of-extent.ensures))
    (subst (λ (ps : List Page). IsCovered (put_in extent_range (extent_of c.args.piece.now) t.extents.items) ps) (sym (vec_added c.open_pages.new.pages c.lay.new.pages c.as_mut_slice.result.now c.of-extent.result c.as_slice-2.result.now
    c.args.piece.now c.lay.auto.pages c.lay.ensures c.as_mut_slice.ensures.value c.of-extent.ensures c.as_slice-2.ensures)) (added-covered t.extents.items t.pages.items c.open_pages.new.pages.items c.args.piece.now t.ascend t.covered
    (subst P c.range-range.ensures (rw c.as_slice-extents.ensures.value at c.open_pages.ensures.open)) c.requires.full c.requires.apart))
