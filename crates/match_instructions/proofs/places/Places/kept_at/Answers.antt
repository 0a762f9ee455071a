use Rattle.std.proofs.Common.{subst}
use Rattle.std.specs.List.Sorted.{IsStrictlyIncreasing}
use Rattle.match_instructions.specs.Places.{Places}
use Rattle.match_instructions.proofs.Rising.{number_below}
use Rattle.match_instructions.proofs.places.Places.kept_at.Goals as goal

pub returns-clause-low : goal.returns-clause-low
returns-clause-low c =
    number_below c.args.self.now.kept c.args.number c.nth_kept-place.result
    (subst (λ (x : Places). IsStrictlyIncreasing x.kept) c.self.view_is c.self.invariant.0) c.nth_kept-place.ensures
