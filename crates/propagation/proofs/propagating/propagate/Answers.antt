use Rattle.std.proofs.Common.{◌∙◌}
use Rattle.propagation.proofs.EndLaws.{ended}
use Rattle.propagation.proofs.propagating.propagate.Goals as goal

pub returns : goal.returns
returns c =
    c.into_left.ensures ∙ ended c.args.choices.now c.step.new.self c.in_ok-step.ensures.state
    (c.in_ok-step.ensures.over c.if-branch.false) c.requires
