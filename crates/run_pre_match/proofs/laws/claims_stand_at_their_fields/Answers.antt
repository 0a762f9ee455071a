use Rattle.run_pre_match.proofs.ClaimPlaces.{stand_under, each_once}
use Rattle.run_pre_match.proofs.laws.claims_stand_at_their_fields.Goals as goal

pub returns-clause-places : goal.returns-clause-places
returns-clause-places c = stand_under

pub returns-clause-once : goal.returns-clause-once
returns-clause-once c = λ candidate m at code distinct fields is.
    each_once candidate m (record { at = at; code = code; names = distinct }) fields is
