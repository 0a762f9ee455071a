use Rattle.std.proofs.Common.{◌≡◌, ◌++◌, drop}
use Rattle.extract_post.specs.inside.Marks.{marked_names}
use Rattle.extract_post.proofs.marking.Marks.names.Given as goal

abbrev pub invariant-loop-place : goal.invariant-loop-place
invariant-loop-place l = l.names ++ marked_names (drop l.place l.sections)
    (drop l.place l.self) ≡ marked_names l.sections l.self
