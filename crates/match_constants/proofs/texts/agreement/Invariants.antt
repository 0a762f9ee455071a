-- As many bytes as were passed stand.
use Rattle.match_constants.specs.Texts.{StandBefore}
use Rattle.match_constants.proofs.texts.agreement.Given as goal

abbrev pub invariant-loop-count : goal.invariant-loop-count
invariant-loop-count g l = StandBefore (g.S.Space.contents l.space).pieces l.bytes l.end l.address l.count
