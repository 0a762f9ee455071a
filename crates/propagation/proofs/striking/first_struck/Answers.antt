use Rattle.std.proofs.Common.{Bool, List, ◌∙◌, ap}
use Rattle.propagation.specs.inside.Engine.{is_left}
use Rattle.propagation.proofs.StrikeLaws.{first_is}
use Rattle.propagation.proofs.striking.first_struck.Goals as goal

pub returns : goal.returns
returns c =
    first_is c.args.choices.now c.args.marks.now c.as_slice.result.now c.args.by.now c.first_lost.result
    (λ place x at. ap (λ (l : List Bool). is_left l place) c.as_slice.ensures.value ∙ c.in_ok-rest.ensures place x at)
    c.first_lost.ensures.none c.first_lost.ensures.lost c.first_lost.ensures.gone c.first_lost.ensures.before
