use Rattle.std.proofs.Common.{◌≡◌, map, take}
use Rattle.symbol_solve.specs.inside.Numbers.{claim_of}
use Rattle.symbol_solve.proofs.choices.numbered_claims.Given as goal

abbrev pub invariant-loop-claim : goal.invariant-loop-claim
invariant-loop-claim l = l.list.items ≡ map (claim_of l.numbers) (take l.claim-index l.claims)
