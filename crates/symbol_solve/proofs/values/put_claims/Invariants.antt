use Rattle.std.proofs.Common.{◌≡◌, drop}
use Rattle.std.specs.List.{flat_map, fold}
use Rattle.symbol_solve.specs.Solve.{with_value, address_value}
use Rattle.symbol_solve.proofs.values.put_claims.Given as goal

abbrev pub invariant-loop-claim : goal.invariant-loop-claim
invariant-loop-claim l =
    fold with_value l.fn.values.entries (flat_map address_value l.claims)
    ≡ fold with_value l.values.entries (flat_map address_value (drop l.claim-index l.claims))
