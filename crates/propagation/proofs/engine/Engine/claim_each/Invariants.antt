use Rattle.std.proofs.Common.{◌≡◌, take}
use Rattle.std.specs.List.{fold}
use Rattle.propagation.specs.inside.Engine.{claimed}
use Rattle.propagation.proofs.engine.Engine.claim_each.Given as goal

abbrev pub invariant-loop-claim : goal.invariant-loop-claim
invariant-loop-claim l = l.self ≡ fold (claimed l.choices) l.initial.self (take l.claim-index l.claims)
