use Rattle.std.proofs.Common.{Some, refl, ◌∙◌, ap}
use Rattle.std.specs.List.{position}
use Rattle.symbol_solve.specs.inside.Numbers.{Numbers, same_point}
use Rattle.symbol_solve.proofs.PointLaws.{demand_here, point_position}
use Rattle.symbol_solve.proofs.numbers.Numbers.demand.Goals as goal

pub returns : goal.returns
returns c =
    demand_here c.args.object.now c.args.self.now c.args.interior.now c.in-Some.point
    (Some c.in-Some.point) c.get_index_of.result c.in_ok-word.field-0 c.in-Some.ensures refl
    (c.get_index_of.ensures.index ∙ point_position c.self.inside.points.keys c.in-Some.point
    ∙ ap (λ (n : Numbers). position (same_point c.in-Some.point) n.points) c.self.view_is)
    (c.in_ok-word.ensures.value ∙ c.unwrap_or-number.ensures)
