use Rattle.std.proofs.Common.{◌≡◌, ℕ, ◌+◌, List, slice_index_or, sym, ◌∙◌, ap, arith, subst}
use Rattle.image_memory.specs.Ranges.{from_to}
use Rattle.link_post.specs.declared.types.Placed.{Placed}
use Rattle.link_post.specs.Places.{LiesInOne}
use Rattle.update_stack.proofs.ScratchPlaceLaws.{placed_one, place_within, lies_below}
use Rattle.update_stack.proofs.scratch.scratch_place.Goals as goal

pub overflow_add-result : goal.overflow_add-result
overflow_add-result c =
    let at = placed_one c.args.free.now c.new.result c.in_ok-placement.placement c.new.ensures c.in_ok-placement.ensures in
    let first : (slice_index_or c.as_slice.result.now 0 c.index-as_slice-0.result).base ≡ at.base =
    ap (λ (ps : List Placed). (slice_index_or ps 0 c.index-as_slice-0.result).base) (c.as_slice.ensures ∙ at.is) in
    let lies = place_within c.places_are_lowest.ensures.some c.args.free.now at.base at.found in
    let high = lies_below 0xFFFF_0000 c.args.free.now (from_to at.base (at.base + 4096)) c.requires.low lies in
    omega (arith, first, high)

pub returns-clause-within : goal.returns-clause-within
returns-clause-within c =
    let at = placed_one c.args.free.now c.new.result c.in_ok-placement.placement c.new.ensures c.in_ok-placement.ensures in
    let first : (slice_index_or c.as_slice.result.now 0 c.index-as_slice-0.result).base ≡ at.base =
    ap (λ (ps : List Placed). (slice_index_or ps 0 c.index-as_slice-0.result).base) (c.as_slice.ensures ∙ at.is) in
    let lies = place_within c.places_are_lowest.ensures.some c.args.free.now at.base at.found in
    subst (λ (base : ℕ). LiesInOne c.args.free.now (from_to base (base + 4096))) (sym first) lies
