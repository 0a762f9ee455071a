use Rattle.update_stack.specs.laws.StackedLaws.{built_sound}
use Rattle.update_stack.proofs.CodeLaws.{text_kept, code_kept}
use Rattle.update_stack.proofs.OpenStepLaws.{phase_code_kept}
use Rattle.update_stack.proofs.laws.threads_leave_code.Goals as goal

pub returns-clause-text : goal.returns-clause-text
returns-clause-text c = λ k number built.
    text_kept c.steps_leave_code.ensures.changes k (built_sound k built).jumps.valid.placed number

pub returns-clause-memory : goal.returns-clause-memory
returns-clause-memory c = λ k number built.
    code_kept c.steps_leave_code.ensures.changes k (built_sound k built).jumps.valid.placed number

pub returns-clause-phases : goal.returns-clause-phases
returns-clause-phases c = λ phase k number built opened.
    phase_code_kept phase k number built opened
    (code_kept c.steps_leave_code.ensures.changes k (built_sound k built).jumps.valid.placed number)
