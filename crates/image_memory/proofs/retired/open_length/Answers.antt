-- Two cuts are the shorter one.
use Rattle.std.proofs.Common.{◌≡◌, ◌-◌, sym, ap, ◌∙◌, refl, map, nat_lt, Some, None}
use Rattle.std.specs.Option.{option_map}
use Rattle.std.specs.List.{find}
use Rattle.image_memory.specs.Contents.{fence_range}
use Rattle.image_memory.proofs.FenceLaws.{take_min}
use Rattle.image_memory.specs.laws.WindowLaws.{find-map}
use Rattle.image_memory.proofs.retired.open_length.Goals as goal

pub returns-in-Some-clause-cut : goal.returns-in-Some-clause-cut
returns-in-Some-clause-cut c = λ code.
    let fence = c.in-Some.fence.now in
    let fences = c.args.fences.now in
    let next : find (λ range. nat_lt c.args.pc range.low) (map fence_range fences) ≡ Some fence.range
    = find-map (λ range. nat_lt c.args.pc range.low) fence_range fences
    ∙ ap (λ o. option_map fence_range o) (sym (rw c.in-Some.is at c.fence_after.ensures.next)) in
    rw (next, c.at_most_15.ensures) (take_min 15 (fence.range.low - c.args.pc) code)

pub returns-in-None-clause-cut : goal.returns-in-None-clause-cut
returns-in-None-clause-cut c = λ code.
    let fences = c.args.fences.now in
    let next : find (λ range. nat_lt c.args.pc range.low) (map fence_range fences) ≡ None
    = find-map (λ range. nat_lt c.args.pc range.low) fence_range fences
    ∙ ap (λ o. option_map fence_range o) (sym (rw c.in-None.is at c.fence_after.ensures.next)) in
    rw next refl
