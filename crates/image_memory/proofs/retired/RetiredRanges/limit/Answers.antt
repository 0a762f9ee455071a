-- The retired range that holds an address tells whether a jump stands there.
use Rattle.std.proofs.Common.{◌≡◌, ℕ, sym, subst, ◌∙◌, Some, None, true, false, Bool, map, refl, inl, inr, cond, Option}
use Rattle.std.proofs.Common.{◌&&◌, ◌==◌, List}
use Rattle.std.specs.List.{find, list_any}
use Rattle.image_memory.specs.Ranges.{lies_in}
use Rattle.image_memory.specs.Contents.{Retired, fence_range, spliced_at}
use Rattle.image_memory.specs.Fetch.{IsLimit, jump_length}
use Rattle.image_memory.specs.declared.types.Fence.{Fence}
use Rattle.image_memory.specs.laws.RangeLaws.{lows_rise, list_any-map}
use Rattle.image_memory.proofs.FenceLaws.{spliced_found, spliced_nowhere, any_found, any_nowhere}
use Rattle.image_memory.proofs.retired.RetiredRanges.limit.Goals as goal

pub begun-begun-requires : goal.begun-begun-requires
begun-begun-requires c =
    rw c.as_slice-fences.ensures.value (lows_rise fence_range 0 c.self.inside.fences.items c.self.invariant.0)

by_jump : (fences : List Fence) (pc : ℕ) (b : Bool) (o : Option ℕ) → o ≡ cond b (Some jump_length) None
    → spliced_at fences pc ≡ b → list_any (lies_in pc) (map fence_range fences) ≡ true → IsLimit fences pc o
by_jump fences pc true o is spliced held = rw is (inl (spliced, refl))
by_jump fences pc false o is spliced held = rw is (spliced, held)

pub returns-in-Some-clause-limit : goal.returns-in-Some-clause-limit
returns-in-Some-clause-limit c =
    let fences = c.self.inside.fences.items in
    let fence = c.in-Some.fence.now in
    let held : find (λ fence. lies_in c.args.pc (fence_range fence)) fences ≡ Some fence
    = sym (rw (c.in-Some.is, c.as_slice-fences.ensures.value) at c.held_by.ensures) in
    let fenced = list_any-map (lies_in c.args.pc) fence_range fences
    ∙ any_found (λ f. lies_in c.args.pc (fence_range f)) fences fence held in
    let P : Retired → Type 0 = λ r. IsLimit r.fences c.args.pc c.jump_length.result in
    subst P c.self.view_is
    (by_jump fences c.args.pc (fence.jump && (fence.range.low == c.args.pc)) c.jump_length.result
    c.jump_length.ensures (spliced_found 0 fences c.args.pc fence c.self.invariant.0 held) fenced)

pub returns-in-None-clause-limit : goal.returns-in-None-clause-limit
returns-in-None-clause-limit c =
    let fences = c.self.inside.fences.items in
    let gone : find (λ fence. lies_in c.args.pc (fence_range fence)) fences ≡ None
    = sym (rw (c.in-None.is, c.as_slice-fences.ensures.value) at c.held_by.ensures) in
    let free = list_any-map (lies_in c.args.pc) fence_range fences
    ∙ any_nowhere (λ f. lies_in c.args.pc (fence_range f)) fences gone in
    let cut = rw c.as_slice-fences.ensures.value at c.open_length.ensures.cut in
    let P : Retired → Type 0 = λ r. IsLimit r.fences c.args.pc (Some c.open_length.result) in
    subst P c.self.view_is (inr (spliced_nowhere 0 fences c.args.pc c.self.invariant.0 gone, free, cut))
