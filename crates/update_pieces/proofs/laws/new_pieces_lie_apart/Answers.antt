use Rattle.update_pieces.proofs.NewRanges.{are_new_pieces}
use Rattle.update_pieces.proofs.laws.new_pieces_lie_apart.Goals as goal

pub returns : goal.returns
returns c = are_new_pieces c.places_lie_apart.ensures
