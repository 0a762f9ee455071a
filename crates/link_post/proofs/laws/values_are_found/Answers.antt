use Rattle.link_post.proofs.Telling.{by_sections}
use Rattle.link_post.proofs.laws.values_are_found.Goals as goal

pub returns : goal.returns
returns c = by_sections
