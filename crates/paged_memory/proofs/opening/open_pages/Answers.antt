-- One page more in each turn.
use Rattle.std.proofs.Common.{◌≡◌, ◌+◌, ◌/◌, arith, refl, subst, List, [], ◌∷◌, length, vec_len}
use Rattle.paged_memory.specs.declared.types.Page.{Page}
use Rattle.paged_memory.specs.inside.Opening.{IsPlaceOf}
use Rattle.paged_memory.proofs.MissingLaws.{missing-some, page_within}
use Rattle.paged_memory.proofs.OpeningLaws.{open_more, open_none, enough_more, gap_missing}
use Rattle.paged_memory.proofs.opening.open_pages.Goals as goal

pub loop-number-init : goal.loop-number-init
loop-number-init c =
    let P = λ (ps : List Page). IsPlaceOf ps (c.args.range.low / 4096) c.place_of-at.result in
    record {
      open_to = open_none c.args.extents.now c.args.pages.now.items (c.args.range.low / 4096) c.requires.laid c.requires.some;
      place = subst P c.as_slice.ensures.value c.place_of-at.ensures;
      blocks = λ ranges in_ranges enough. enough;
      room = c.requires.room;
    }

pub open_page-requires-clause-some : goal.open_page-requires-clause-some
open_page-requires-clause-some c = λ gap.
    let range = c.args.range in
    let n = c.loop-number.number in
    let i = c.loop-number.invariant in
    let has = page_within n range c.requires.placeable.0 c.loop-number.auto.number c.loop-number-test.true in
    let some = missing-some (range ∷ []) c.loop-number.pages.items range n (0, omega arith, refl) has (omega arith)
    (gap_missing c.loop-number.pages.items n c.loop-number.at gap) in
    let enough = i.blocks (range ∷ []) (0, omega arith, refl) c.requires.blocks in
    omega (arith, some, enough)

pub loop-number-preserved : goal.loop-number-preserved
loop-number-preserved c =
    let i = c.loop-number.invariant in
    let n = c.loop-number.number in
    let below = c.loop-number-test.true in
    let high = c.requires.placeable.1 in
    let has = page_within n c.args.range c.requires.placeable.0 c.loop-number.auto.number below in
    let more = open_more c.args.extents.now c.args.pages.now.items c.loop-number.pages.items c.open_page.new.pages.items
    (c.args.range.low / 4096) n c.loop-number.at c.requires.ascend c.requires.covered c.loop-number.auto.number (omega arith) i.open_to
    c.open_page.ensures.opened in
    let spent : length c.open_page.new.pages.items + vec_len c.open_page.new.blocks
    ≡ length c.loop-number.pages.items + vec_len c.loop-number.blocks =
    omega (arith, c.open_page.ensures.spent, c.open_page.new.pages.ok.0, c.loop-number.pages.ok.0) in
    record {
      open_to = more.0;
      place = more.1;
      blocks = λ ranges in_ranges enough.
          enough_more c.args.extents.now c.args.pages.now.items c.loop-number.pages.items c.open_page.new.pages.items
          (c.args.range.low / 4096) n c.loop-number.at c.requires.ascend c.requires.covered c.loop-number.auto.number (omega arith) i.open_to
          c.open_page.ensures.opened ranges c.args.range in_ranges has _ _ spent (i.blocks ranges in_ranges enough);
      room = c.open_page.ensures.room;
    }
