use Rattle.std.proofs.Common.{arith}
use Rattle.match_instructions.proofs.Rising.{number_low, position_found, position_missing}
use Rattle.match_instructions.proofs.places.first_from.Goals as goal

pub overflow_cast-result : goal.overflow_cast-result
overflow_cast-result c =
    let low = number_low _ c.requires c.count_before-number.result c.if-number-places.true in
    let small = c.type_inv.places c.count_before-number.result in
    omega (arith, low, small)

pub returns-then-number-places : goal.returns-then-number-places
returns-then-number-places c = position_found _ _ _ c.if-number-places.true c.count_before-number.ensures.point

pub returns : goal.returns
returns c = position_missing _ _ _ c.count_before-number.ensures.within c.if-number-places.false
    c.count_before-number.ensures.point
