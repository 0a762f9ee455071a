use Rattle.tests_of_machine.proofs.threads.step_of.Goals as goal

pub returns : goal.returns
returns c = c.step.ensures.stacks c.requires
