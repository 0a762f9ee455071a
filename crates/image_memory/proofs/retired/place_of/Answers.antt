-- A retired range is the last one that begins at or below its low.
use Rattle.std.proofs.Common.{◌≡◌, suc, get_or, arith, ap}
use Rattle.std.proofs.lemmas.Bool.Decides.{nat_tests}
use Rattle.ks_base.specs.declared.places.Range.{Range}
use Rattle.image_memory.specs.Ranges.{are_same}
use Rattle.image_memory.specs.Contents.{fence_range}
use Rattle.image_memory.specs.declared.types.Fence.{Fence}
use Rattle.image_memory.specs.laws.RangeLaws.{lows_rise}
use Rattle.image_memory.specs.laws.ChangeLaws.{place_of, taken_out, are_same_self}
use Rattle.image_memory.proofs.FenceLaws.{in_list, is_range}
use Rattle.image_memory.proofs.retired.place_of.Goals as goal

begins : (c : goal.After-begun) (d : Fence)
    → (get_or c.args.fences.now c.requires.there.0 d).range.low ≡ c.args.range.low
begins c d = ap (λ (r : Range). r.low) (is_range c.args.fences.now c.args.range c.requires.there d)

place : (c : goal.After-begun) → c.begun.result ≡ suc c.requires.there.0
place c =
    let e = c.begun.ensures in
    place_of fence_range 0 c.args.fences.now c.args.range.low c.requires.there.0 c.begun.result c.requires.ascend
    (in_list c.args.fences.now c.args.range c.requires.there) (begins c) e.bound
    (λ k d m. e.below k d (omega arith) m)
    (λ k d m o. e.above k d m o)

pub begun-requires : goal.begun-requires
begun-requires c = lows_rise fence_range 0 c.args.fences.now c.requires.ascend

pub overflow_sub-result : goal.overflow_sub-result
overflow_sub-result c = let p = place c in omega arith

pub returns : goal.returns
returns c =
    let fences = c.args.fences.now in
    let p = place c in
    let l = in_list fences c.args.range c.requires.there in
    record {
      within = omega arith;
      taken = taken_out fence_range (λ fence. are_same fence.range c.args.range) 0 fences c.args.range.low
          c.requires.there.0 c.begun.result c.requires.ascend l (begins c)
          (λ d. rw (is_range fences c.args.range c.requires.there d) (are_same_self c.args.range))
          (λ fence apart. grind (arith, nat_tests)) p;
    }
