use Rattle.std.proofs.Common.{◌≡◌, map, take}
use Rattle.link_post.specs.Needs.{need_of}
use Rattle.link_post.proofs.linking.Linking.needs_of.Given as goal

abbrev pub invariant-loop-r : goal.invariant-loop-r
invariant-loop-r l = l.fields ≡ map (need_of l.self.post.now l.self.placement.now l.self.values.now.entries)
    (take l.r-index l.refs)
