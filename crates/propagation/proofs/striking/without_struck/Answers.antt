use Rattle.std.proofs.Common.{Bool, List, not, ◌&&◌, ◌∙◌, ap, sym, subst, fold}
use Rattle.propagation.specs.inside.Engine.{Engine, is_left, carried_at}
use Rattle.propagation.specs.inside.Striking.{is_struck, AreApart, AreMarkedMatching}
use Rattle.propagation.proofs.EngineLaws.{Goes}
use Rattle.propagation.proofs.StrikeLaws.{struck_each}
use Rattle.propagation.proofs.striking.without_struck.Goals as goal

pub carry_out_each-requires : goal.carry_out_each-requires
carry_out_each-requires c = λ k d less. (c.requires.choices.each k d less).ascend

pub returns : goal.returns
returns c =
    let choices = c.args.choices.now in
    let by = c.args.by.now in
    let engine : Engine = c.in_ok-engine.engine in
    let left = c.in_ok-engine.ensures.left ∙ c.in_ok-from_slice.ensures.items in
    let P : List Bool → Type 0 = AreMarkedMatching choices in
    let Q : List Bool → Type 0 = λ l. AreApart choices l by in
    let goes : Goes choices (is_struck choices by) engine (fold (carried_at choices) engine by) =
    struck_each choices c.requires.choices engine by c.in_ok-engine.ensures.keeps
    (subst P (sym left) c.requires.marked) (subst Q (sym left) c.requires.apart) in
    λ place x at.
    ap (λ (l : List Bool). is_left l place) c.into_left.ensures
    ∙ ap (λ (e : Engine). is_left e.marking.left place) c.in_ok-carry_out_each.ensures
    ∙ goes.left place x at
    ∙ ap (λ (l : List Bool). is_left l place && not (is_struck choices by x)) left
