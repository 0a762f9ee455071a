use Rattle.link_post.proofs.Ready.{has_address}
use Rattle.link_post.proofs.laws.needed_targets_have_addresses.Goals as goal

pub returns : goal.returns
returns c = has_address
