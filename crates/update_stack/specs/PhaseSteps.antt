-- Steps over the memory of a system whose newest update is still being written, beside those of the machine.
use Rattle.std.specs.Prelude.{◌≡◌, ◌≢◌, ℕ, IfSome, Some}
use Rattle.image_memory.specs.Fetch.{view_at}
use Rattle.ia32_step.specs.declared.types.Thread.{Thread}
use Rattle.ia32_step.specs.declared.types.Flow.TheVariants.{Plain}
use Rattle.ia32_step.specs.declared.types.Outcome.TheVariants.{Moved}
use Rattle.ia32_step.specs.Step.{Left, left_by, stepped}
use Rattle.splice_jump.specs.declared.phase.Phase.{Phase}
use Rattle.splice_jump.specs.Phases.{open_home}
use Rattle.update_stack.specs.AbstractMachine.{AbstractMachine, contents_of, view_in, base_of}
use Rattle.update_stack.specs.Steps.{step_in}
use Rattle.update_stack.specs.Stacked.{IsBuilt}
use Rattle.update_stack.specs.Phases.{patched_in, IsOpenAt}

-- In each phase a thread meets at each address what it meets on the machine.
abbrev pub PhasesLeaveViews : Type 0
PhasesLeaveViews =
    (phase : Phase) (k : AbstractMachine) (pc : ℕ) → IsBuilt k → IsOpenAt phase k
    → view_at (patched_in phase k) pc ≡ view_in k pc

-- what a step leaves, with the phase's bytes in its memory
abbrev pub phased_left : Phase → AbstractMachine → Left → Left
phased_left phase k left =
    record left { contents = patched_in phase (record k { pieces = left.contents.pieces }) }

-- So away from the open home a step over that memory leaves what the machine's step does,
abbrev pub StepsStandIn : Type 0
StepsStandIn =
    (phase : Phase) (k : AbstractMachine) (thread : Thread) → IsBuilt k → IsOpenAt phase k
    → IfSome (open_home phase) (λ home. thread.pc ≢ home)
    → stepped (patched_in phase k) thread ≡ phased_left phase k (step_in k thread)

-- and at the open home the machine's step goes on at the newest version, with nothing else changed.
abbrev pub OpenHomesLeadOn : Type 0
OpenHomesLeadOn =
    (phase : Phase) (k : AbstractMachine) (thread : Thread) → IsBuilt k → IsOpenAt phase k
    → open_home phase ≡ Some thread.pc
    → step_in k thread ≡ left_by (contents_of k) (record thread { pc = base_of k thread.pc }) (Moved Plain)
