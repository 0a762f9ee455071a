use Rattle.link_post.proofs.PieceLaws.{taken_besides}
use Rattle.link_post.proofs.arena_laws.gaps_of_pieces.Goals as goal

pub returns : goal.returns
returns c free pieces more = taken_besides free pieces more
