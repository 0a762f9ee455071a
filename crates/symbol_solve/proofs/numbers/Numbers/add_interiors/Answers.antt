-- What had a number keeps one, and the next one has one.
use Rattle.symbol_solve.proofs.NumberLaws.{at_end, grows_on, interiors_more}
use Rattle.symbol_solve.specs.inside.Numbers.{IsInteriorNumbered}
use Rattle.symbol_solve.proofs.numbers.Numbers.add_interiors.Goals as goal

pub loop-interior-preserved : goal.loop-interior-preserved
loop-interior-preserved c =
    let before = c.loop-interior.self in
    let after = c.add_interior.new.self in
    record {
      grows = grows_on c.args.self.now before after c.loop-interior.invariant.grows c.in_ok-add_interior.ensures.grows;
      numbered = interiors_more c.args.object.now before after c.args.interiors.now
          c.loop-interior.interior-index c.interior-item.result c.loop-interior-test.true c.interior-item.is
          c.in_ok-add_interior.ensures.grows c.in_ok-add_interior.ensures.numbered c.loop-interior.invariant.numbered;
    }

pub returns-clause-numbered : goal.returns-clause-numbered
returns-clause-numbered c =
    at_end (IsInteriorNumbered c.args.object.now c.loop-interior.self) c.args.interiors.now
    c.loop-interior.interior-index c.loop-interior-test.false c.loop-interior.invariant.numbered
