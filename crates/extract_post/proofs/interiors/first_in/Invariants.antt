use Rattle.std.proofs.Common.{◌≡◌, drop}
use Rattle.std.specs.List.{position, position_from}
use Rattle.extract_post.specs.inside.Marks.{breaks}
use Rattle.extract_post.proofs.interiors.first_in.Given as goal

-- none of the references that are passed breaks
abbrev pub invariant-loop-k : goal.invariant-loop-k
invariant-loop-k l =
    position_from (breaks l.post l.trial.from_old l.trial.from_new l.trial.changed.now l.trial.stays.now) l.k
    (drop l.k l.refs)
    ≡ position (breaks l.post l.trial.from_old l.trial.from_new l.trial.changed.now l.trial.stays.now) l.refs
