use Rattle.propagation.proofs.StartLaws.{start_answer}
use Rattle.propagation.proofs.engine.Engine.new.Goals as goal

pub returns : goal.returns
returns c =
    start_answer c.args.choices.now c.in_ok-left.left.items c.of.result c.in_ok-left.ensures
    c.of.ensures.keeps c.of.ensures.left c.of.ensures.waits
