use Rattle.std.proofs.Common.{arith}
use Rattle.std.proofs.lemmas.Grind.{common_steps}
use Rattle.link_post.proofs.Copies.{same_values}
use Rattle.link_post.proofs.resolving.copied.Goals as goal

pub returns : goal.returns
returns c = grind (arith, common_steps, same_values)
