use Rattle.symbol_solve.proofs.FirstClaims.{put_first}
use Rattle.symbol_solve.proofs.first_claims.put.Goals as goal

pub returns : goal.returns
returns c = λ claims are.
    put_first c.args.first.now.entries c.insert.new.self.entries
    c.in_ok-unknown.unknown c.args.claim claims c.in_ok-unknown.ensures c.in_ok-insert.ensures.updates.0 are
