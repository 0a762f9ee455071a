-- The entries are as before, or one more.
use Rattle.section_equal.proofs.EndsOfTexts.{after_insert}
use Rattle.section_equal.proofs.comparing.keep.Goals as goal

pub returns : goal.returns
returns c =
    λ pre post all here.
    after_insert pre post c.args.ends c.args.count c.args.known.now c.insert-kept.new.self c.insert-kept.result
    c.insert-kept.ensures.entries c.insert-kept.ensures.err all here
