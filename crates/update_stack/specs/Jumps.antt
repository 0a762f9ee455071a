-- The machine's steps beside those of a memory in which its jumps stand.
use Rattle.std.specs.Prelude.{◌≡◌, ℕ, ◌^◌, ◌<◌, List}
use Rattle.std.specs.List.{All}
use Rattle.image_memory.specs.Contents.{IsValid}
use Rattle.ia32_step.specs.declared.types.Thread.{Thread}
use Rattle.ia32_step.specs.Step.{Left, stepped}
use Rattle.splice_jump.specs.Jumps.{jumped_memory, AreSpliced}
use Rattle.update_stack.specs.AbstractMachine.{AbstractMachine, bodies_in, contents_of}
use Rattle.update_stack.specs.Steps.{step_in}
use Rattle.update_stack.specs.StandsFor.{patched}

-- The jumps of a machine can stand in memory: at each home with a row five bytes of one code piece are retired, and
-- each newest version begins at an address of 32 bits.
pub record CanJump (k : AbstractMachine) : Type 0 where
  pub valid : IsValid (contents_of k)
  pub spliced : AreSpliced (contents_of k) (bodies_in k.table)
  pub low : All (λ row. row.1 < 2 ^ 32) (bodies_in k.table)

-- what a step leaves, with jumps in its memory
abbrev pub jumped_left : List (ℕ × ℕ) → Left → Left
jumped_left rows left = record left { contents = jumped_memory rows left.contents }

-- A step over the memory with the jumps leaves what the machine's step does, with the jumps.
abbrev pub StepsStand : AbstractMachine → Thread → Type 0
StepsStand k thread = stepped (patched k) thread ≡ jumped_left (bodies_in k.table) (step_in k thread)
