-- A range stands where it did before others were made empty.
use Rattle.std.proofs.Common.{◌≡◌, ◌∙◌, suc, false, map, take, get_or, arith, sym, ap, subst, List}
use Rattle.std.specs.List.{filter}
use Rattle.std.specs.List.Sorted.{IsNonDecreasingBy}
use Rattle.std.proofs.lemmas.List.{take_all}
use Rattle.ks_base.specs.declared.places.Range.{Range}
use Rattle.image_memory.specs.declared.types.Fence.{Fence}
use Rattle.image_memory.proofs.FenceLaws.{in_list}
use Rattle.image_memory.proofs.EmptyLaws.{emptied, is_full, none_emptied, still_rise, place_still, next_emptied, left_full}
use Rattle.image_memory.proofs.retired.make_empty.Goals as goal

abbrev none : Range
none = record { low = 0; high = 0 }

place : (c : goal.After-begun-at) → c.begun-at.result
    ≡ suc (c.requires.there c.loop-range.range-index none c.loop-range-test.true).0
place c =
    let i = c.loop-range.range-index in
    let e = c.begun-at.ensures in
    place_still (take i c.args.ranges.now) c.args.fences.now c.loop-range.fences (get_or c.args.ranges.now i none)
    c.begun-at.result c.requires.ascend c.loop-range.invariant (c.requires.there i none c.loop-range-test.true)
    e.bound e.below e.above

pub loop-range-init : goal.loop-range-init
loop-range-init c = none_emptied c.args.fences.now

pub begun-at-requires : goal.begun-at-requires
begun-at-requires c =
    subst (λ (fs : List Fence). IsNonDecreasingBy (λ fence. fence.range.low) fs) (sym c.loop-range.invariant)
    (still_rise (take c.loop-range.range-index c.args.ranges.now) c.args.fences.now c.requires.ascend)

pub overflow_sub-at : goal.overflow_sub-at
overflow_sub-at c = let p = place c in omega arith

pub bounds-fences-at : goal.bounds-fences-at
bounds-fences-at c =
    let i = c.loop-range.range-index in
    let p = place c in
    let l = in_list c.args.fences.now (get_or c.args.ranges.now i none)
    (c.requires.there i none c.loop-range-test.true) in
    let same = c.loop-range.auto.fences in
    omega arith

pub loop-range-preserved : goal.loop-range-preserved
loop-range-preserved c =
    let ranges = c.args.ranges.now in
    let i = c.loop-range.range-index in
    let at = c.requires.there i none c.loop-range-test.true in
    let e = c.begun-at.ensures in
    next_emptied ranges c.args.fences.now c.loop-range.fences i c.begun-at.result none
    (record { range = none; jump = false }) c.requires.ascend c.loop-range.invariant c.loop-range-test.true at
    (place_still (take i ranges) c.args.fences.now c.loop-range.fences (get_or ranges i none)
    c.begun-at.result c.requires.ascend c.loop-range.invariant at e.bound e.below e.above)

pub returns : goal.returns
returns c =
    let ranges = c.args.ranges.now in
    ap (filter is_full) (c.loop-range.invariant
    ∙ ap (λ (taken : List Range). map (emptied taken) c.args.fences.now)
    (take_all c.loop-range.range-index ranges c.loop-range-test.false))
    ∙ left_full ranges 0 c.args.fences.now c.requires.ascend
