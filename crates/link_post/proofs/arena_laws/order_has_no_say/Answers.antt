use Rattle.std.proofs.Common.{sym}
use Rattle.link_post.specs.Places.{without}
use Rattle.link_post.proofs.FoldLaws.{order_has_none}
use Rattle.link_post.proofs.CutLaws.{commute}
use Rattle.link_post.proofs.arena_laws.order_has_no_say.Goals as goal

pub returns : goal.returns
returns c free a b same = sym (order_has_none without commute free a b same)
