use Rattle.std.proofs.Common.{◌≡◌, map, take}
use Rattle.match_candidates.specs.Candidates.{candidates}
use Rattle.symbol_solve.specs.inside.Numbers.{choice_of}
use Rattle.symbol_solve.proofs.choices.choices_of.Given as goal

abbrev pub invariant-loop-tried : goal.invariant-loop-tried
invariant-loop-tried g l =
    l.choices.items ≡ map (choice_of l.object l.numbers) (take l.tried-index (candidates l.running l.object))
