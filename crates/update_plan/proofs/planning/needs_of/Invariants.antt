use Rattle.std.proofs.Common.{◌≡◌, map, take}
use Rattle.link_post.specs.Needs.{needs}
use Rattle.update_plan.specs.Placing.{names_of}
use Rattle.update_plan.proofs.planning.needs_of.Given as goal

abbrev pub invariant-loop-part : goal.invariant-loop-part
invariant-loop-part l = l.all ≡ map (needs l.post l.placement l.values.entries)
    (names_of (take l.part-index l.parts))
