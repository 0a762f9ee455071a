-- The points of a section ascend, as all do.
use Rattle.std.proofs.Common.{◌∙◌, ℕ, List, [], subst, sym}
use Rattle.std.specs.List.{slice_get}
use Rattle.std.specs.Option.{unwrap_or}
use Rattle.symbol_solve.specs.declared.numbers.Point.{Point}
use Rattle.symbol_solve.specs.inside.Points.{Ascend}
use Rattle.symbol_solve.proofs.RangeLaws.{own_ascend}
use Rattle.symbol_solve.proofs.choices.choice_of_match.Goals as goal

pub met-requires : goal.met-requires
met-requires g c =
    let table : List (List ℕ) = c.args.naming.now.own.items in
    subst (λ (points : List Point). Ascend points c.points_of-own.result.now) (sym c.points.ensures)
    (subst (Ascend c.args.naming.now.numbers.now.points)
    (sym (c.points_of-own.ensures ∙ (λ i. unwrap_or (slice_get (c.deref.ensures.value i) c.place.result) [])))
    (own_ascend c.args.naming.now.numbers.now.points
    table c.place.result c.args.naming.now.order c.args.naming.now.lists))
