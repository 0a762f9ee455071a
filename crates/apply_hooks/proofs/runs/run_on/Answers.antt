use Rattle.update_stack.specs.Aside.{AsItWas}
use Rattle.apply_hooks.proofs.runs.run_on.Goals as goal

pub returns-in_err-fresh_stack-clause-aside : goal.returns-in_err-fresh_stack-clause-aside
returns-in_err-fresh_stack-clause-aside g c = AsItWas
