use Rattle.std.proofs.Common.{length}
use Rattle.run_pre_match.proofs.pair.+same_outside_fields.Given as goal

abbrev pub decreases-same_outside_fields : goal.decreases-same_outside_fields
decreases-same_outside_fields l = length l.run.now
