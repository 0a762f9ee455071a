-- The map is as before, or has one more.
use Rattle.match_constants.proofs.Ends.{after_insert}
use Rattle.match_constants.proofs.texts.keep.Goals as goal

pub returns : goal.returns
returns c =
    λ object pieces all here.
    after_insert object pieces c.args.known.now (record { before = c.insert-kept.new.self }) c.args.address c.args.now
    c.insert-kept.result c.insert-kept.ensures.updates c.insert-kept.ensures.err all here
