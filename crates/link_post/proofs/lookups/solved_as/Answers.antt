use Rattle.std.proofs.Common.{◌∙◌}
use Rattle.link_post.proofs.Found.{looked_up}
use Rattle.link_post.proofs.lookups.solved_as.Goals as goal

pub returns : goal.returns
returns c = c.copied.ensures ∙ c.get.ensures.value ∙ looked_up c.args.which.now c.args.values.now.entries
