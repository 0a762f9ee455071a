use Rattle.link_post.proofs.Apart.{are_places}
use Rattle.link_post.proofs.laws.places_lie_apart.Goals as goal

pub returns : goal.returns
returns c = are_places
