use Rattle.match_instructions.proofs.Rising.{among_by_first, among_none}
use Rattle.match_instructions.proofs.places.is_among.Goals as goal

pub returns-then-number-places : goal.returns-then-number-places
returns-then-number-places c =
    among_by_first _ _ _ c.requires c.if-number-places.true c.count_before-number.ensures.point

pub returns-else-number-places : goal.returns-else-number-places
returns-else-number-places c = among_none _ _ _ c.requires c.count_before-number.ensures.within c.if-number-places.false
    c.count_before-number.ensures.point
