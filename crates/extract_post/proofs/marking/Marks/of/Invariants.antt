use Rattle.std.proofs.Common.{◌≡◌, take}
use Rattle.extract_post.specs.inside.Asked.{passes}
use Rattle.extract_post.specs.inside.Marks.{tests}
use Rattle.extract_post.proofs.marking.Marks.of.Given as goal

abbrev pub invariant-loop-section : goal.invariant-loop-section
invariant-loop-section l = l.marks.items ≡ tests (passes l.asked l.here l.there) (take l.section-index l.here)
