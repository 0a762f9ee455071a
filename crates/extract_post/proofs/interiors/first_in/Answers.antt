use Rattle.std.proofs.Common.{sym}
use Rattle.std.proofs.lemmas.Iterator.Adapters.{position_from-zero}
use Rattle.extract_post.specs.inside.Marks.{breaks}
use Rattle.extract_post.proofs.interiors.first_in.Goals as goal

pub loop-k-init : goal.loop-k-init
loop-k-init c =
    let trial = c.args.trial.now in
    sym (position_from-zero (breaks c.args.post.now trial.from_old trial.from_new trial.changed.now trial.stays.now)
    c.as_slice-refs.result.now)
