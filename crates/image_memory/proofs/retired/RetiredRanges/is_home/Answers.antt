-- The retired range that holds the address is the only one that can begin there.
use Rattle.std.proofs.Common.{◌≡◌, ap, sym, ◌∙◌, Some, None}
use Rattle.std.specs.List.{find}
use Rattle.image_memory.specs.Ranges.{lies_in}
use Rattle.image_memory.specs.Contents.{Retired, fence_range, spliced_at}
use Rattle.image_memory.proofs.FenceLaws.{spliced_found, spliced_nowhere}
use Rattle.image_memory.specs.laws.RangeLaws.{lows_rise}
use Rattle.image_memory.proofs.retired.RetiredRanges.is_home.Goals as goal

pub begun-requires : goal.begun-requires
begun-requires c = rw c.as_slice-fences.ensures.value (lows_rise fence_range 0 c.self.inside.fences.items c.self.invariant.0)

pub returns-in-Some : goal.returns-in-Some
returns-in-Some c =
    let fences = c.self.inside.fences.items in
    let held : find (λ fence. lies_in c.args.pc (fence_range fence)) fences ≡ Some c.in-Some.fence.now
    = sym (rw (c.in-Some.is, c.as_slice-fences.ensures.value) at c.held_by.ensures) in
    c.is_home.ensures ∙ sym (spliced_found 0 fences c.args.pc c.in-Some.fence.now c.self.invariant.0 held)
    ∙ ap (λ (r : Retired). spliced_at r.fences c.args.pc) c.self.view_is

pub returns-in-None : goal.returns-in-None
returns-in-None c =
    let fences = c.self.inside.fences.items in
    let gone : find (λ fence. lies_in c.args.pc (fence_range fence)) fences ≡ None
    = sym (rw (c.in-None.is, c.as_slice-fences.ensures.value) at c.held_by.ensures) in
    sym (spliced_nowhere 0 fences c.args.pc c.self.invariant.0 gone)
    ∙ ap (λ (r : Retired). spliced_at r.fences c.args.pc) c.self.view_is
