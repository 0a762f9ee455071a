-- What holds of a machine to which a scratch piece comes.
use Rattle.std.specs.Prelude.{◌≡◌, ℕ, ◌+◌, IsTrue, Some, None, Ok}
use Rattle.image_memory.specs.Ranges.{from_to}
use Rattle.image_threads.specs.Spawning.{is_stack}
use Rattle.update_stack.specs.AbstractMachine.{AbstractMachine}
use Rattle.update_stack.specs.Scratch.{scratch_size, scratched, unscratched}
use Rattle.update_stack.specs.Stacked.{IsBuilt}

-- it is built with it, has it at that place, and is as it was when it goes again
pub record ComesAndGoes (k now : AbstractMachine) (base : ℕ) : Type 0 where
  pub built : IsBuilt now
  pub scratch : now.scratch ≡ Some (from_to base (base + scratch_size))
  pub stands : IsTrue (is_stack now.pieces (from_to base (base + scratch_size)))
  pub goes : unscratched now ≡ k

abbrev pub ScratchComesAndGoes : Type 0
ScratchComesAndGoes =
    (k now : AbstractMachine) (base : ℕ) → IsBuilt k → k.scratch ≡ None → scratched k ≡ Ok (now, base)
    → ComesAndGoes k now base
