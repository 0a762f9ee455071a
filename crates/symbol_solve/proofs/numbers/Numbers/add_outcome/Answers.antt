use Rattle.symbol_solve.proofs.NumberLaws.{matched_numbered}
use Rattle.symbol_solve.proofs.numbers.Numbers.add_outcome.Goals as goal

pub returns-in_ok-add_interiors-clause-numbered : goal.returns-in_ok-add_interiors-clause-numbered
returns-in_ok-add_interiors-clause-numbered c =
    matched_numbered c.args.object.now c.add_claims.new.self c.add_interiors.new.self
    c.as_slice.result.now c.as_slice-in-Ok.result.now c.args.outcome.now c.in-Ok.matched c.in-Ok.is
    c.as_slice.ensures c.as_slice-in-Ok.ensures
    c.in_ok-add_interiors.ensures.grows c.in_ok-add_claims.ensures.numbered c.in_ok-add_interiors.ensures.numbered
