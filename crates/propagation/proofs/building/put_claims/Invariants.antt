use Rattle.std.proofs.Common.{◌≡◌, ℕ, ◌++◌, take}
use Rattle.propagation.specs.inside.Engine.{list_at, claims_of}
use Rattle.propagation.proofs.building.put_claims.Given as goal

abbrev pub invariant-loop-claim : goal.invariant-loop-claim
invariant-loop-claim l =
    (unknown : ℕ) → list_at l.table unknown
    ≡ list_at l.initial.table unknown ++ claims_of unknown l.place (take l.claim-index l.claims)
