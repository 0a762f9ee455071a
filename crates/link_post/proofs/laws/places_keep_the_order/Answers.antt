use Rattle.link_post.proofs.Orders.{in_order}
use Rattle.link_post.proofs.laws.places_keep_the_order.Goals as goal

pub returns : goal.returns
returns c = in_order
