use Rattle.std.proofs.Common.{◌<◌, sym, subst}
use Rattle.propagation.specs.inside.Engine.{Engine}
use Rattle.propagation.specs.inside.State.{State, weight}
use Rattle.propagation.proofs.SettleLaws.{Stepped, settled_steps}
use Rattle.propagation.proofs.engine.Engine.step.Goals as goal

pub settle-requires : goal.settle-requires
settle-requires c = λ k d less. (c.requires.choices.each k d less).ascend

pub returns-in_ok-settle-in-Some-clause-state : goal.returns-in_ok-settle-in-Some-clause-state
returns-in_ok-settle-in-Some-clause-state c =
    let choices = c.args.choices.now in
    let inside : Engine = record {
      marking = c.self.inside.marks;
      claims = c.self.inside.claims;
      fixed = c.self.inside.fixed;
      members = c.self.inside.members;
      numbers = c.self.inside.numbers;
      makers = c.self.inside.makers;
      asked = c.self.inside.asked;
    } in
    let P : Engine → Type 0 = State choices in
    let steps : Stepped choices inside c.settle.new.self = settled_steps choices
    c.requires.choices c.args.whole.now c.requires.whole c.in-Some.section inside c.pop.new.self c.settle.new.self
    (subst P (sym c.self.view_is) c.requires.state) c.in-Some.ensures.popped c.in_ok-settle-in-Some.ensures in
    steps.state

pub returns-in_ok-settle-in-Some-clause-lighter : goal.returns-in_ok-settle-in-Some-clause-lighter
returns-in_ok-settle-in-Some-clause-lighter c =
    let choices = c.args.choices.now in
    let inside : Engine = record {
      marking = c.self.inside.marks;
      claims = c.self.inside.claims;
      fixed = c.self.inside.fixed;
      members = c.self.inside.members;
      numbers = c.self.inside.numbers;
      makers = c.self.inside.makers;
      asked = c.self.inside.asked;
    } in
    let P : Engine → Type 0 = State choices in
    let steps : Stepped choices inside c.settle.new.self = settled_steps choices
    c.requires.choices c.args.whole.now c.requires.whole c.in-Some.section inside c.pop.new.self c.settle.new.self
    (subst P (sym c.self.view_is) c.requires.state) c.in-Some.ensures.popped c.in_ok-settle-in-Some.ensures in
    let Q : Engine → Type 0 = λ e. weight c.settle.new.self.marking < weight e.marking in
    λ _. subst Q c.self.view_is steps.lighter
