-- What threads that are none of the program's leave of the machine: bytes of its data, and nothing else.
use Rattle.std.specs.Prelude.{◌≡◌, List}
use Rattle.image_memory.specs.declared.types.Piece.{Piece}
use Rattle.ia32_step.specs.declared.types.Thread.{Thread}
use Rattle.saved_data.specs.Saved.{CanBePutBack, DiffersInData}
use Rattle.update_stack.specs.AbstractMachine.{AbstractMachine, contents_of}
use Rattle.update_stack.specs.PutBack.{with_saved}
use Rattle.update_stack.specs.Scratch.{after_aside}
use Rattle.update_stack.specs.Steps.{step_in}

-- however many steps such threads make, and whatever bytes of data are set between
pub data LeavesAside (k : AbstractMachine) : AbstractMachine → Type 0 where
  AsItWas : LeavesAside k k
  AfterStep : (now : AbstractMachine) (thread : Thread) → LeavesAside k now
      → LeavesAside k (after_aside now (step_in now thread))
  AfterSaved : (now : AbstractMachine) (saved : List Piece) → LeavesAside k now → CanBePutBack now.pieces saved
      → LeavesAside k (with_saved now saved)

abbrev pub over_pieces : AbstractMachine → List Piece → AbstractMachine
over_pieces k pieces = record k { pieces = pieces }

-- two machines that differ in bytes of writable pieces alone
pub record DiffersAside (before after : AbstractMachine) : Type 0 where
  pub differ : DiffersInData (contents_of before) (contents_of after)
  pub rest : after ≡ over_pieces before after.pieces
