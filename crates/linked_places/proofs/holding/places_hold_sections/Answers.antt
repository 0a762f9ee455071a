use Rattle.linked_places.proofs.HeldSections.{places_hold}
use Rattle.linked_places.proofs.holding.places_hold_sections.Goals as goal

pub returns : goal.returns
returns c = places_hold c.sections_are_whole.ensures
