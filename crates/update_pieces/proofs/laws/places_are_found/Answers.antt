use Rattle.update_pieces.proofs.OwnPlaces.{are_found}
use Rattle.update_pieces.proofs.laws.places_are_found.Goals as goal

pub returns : goal.returns
returns c = are_found c.places_lie_apart.ensures
