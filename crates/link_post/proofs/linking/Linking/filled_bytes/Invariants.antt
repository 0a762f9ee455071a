use Rattle.std.proofs.Common.{◌≡◌, take}
use Rattle.std.specs.List.{fold}
use Rattle.link_post.specs.Linked.{filled}
use Rattle.link_post.proofs.linking.Linking.filled_bytes.Given as goal

abbrev pub invariant-loop-r : goal.invariant-loop-r
invariant-loop-r l = l.bytes.items ≡ fold (filled l.self.post.now l.self.placement.now l.self.values.now.entries l.base)
    l.section.bytes (take l.r-index l.section.refs)
