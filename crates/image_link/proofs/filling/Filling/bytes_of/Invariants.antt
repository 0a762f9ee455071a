use Rattle.std.proofs.Common.{◌≡◌, fold, take}
use Rattle.link_post.specs.Linked.{filled}
use Rattle.image_link.proofs.filling.Filling.bytes_of.Given as goal

abbrev pub invariant-loop-k : goal.invariant-loop-k
invariant-loop-k l = l.bytes.items ≡ fold (filled l.self.laid.now.object l.self.laid.now.places
    l.self.values.now.entries l.self.base) l.section.bytes (take l.k l.section.refs)
