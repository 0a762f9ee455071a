-- How all of an update is taken back where one of the functions fails that run at it.
use Rattle.std.specs.Prelude.{◌≡◌, Some}
use Rattle.ks_base.specs.declared.places.Range.{Range}
use Rattle.saved_data.specs.Saved.{CanBePutBack, writable_pieces}
use Rattle.update_stack.specs.AbstractMachine.{AbstractMachine, Update}
use Rattle.update_stack.specs.PutBack.{with_saved}
use Rattle.update_stack.specs.Scratch.{unscratched}
use Rattle.update_stack.specs.Undo.{withdrawn}
use Rattle.update_stack.specs.Stacked.{IsBuilt}
use Rattle.update_stack.specs.Aside.{LeavesAside}

-- the machine without its scratch piece and without an update
abbrev pub taken_back : AbstractMachine → Update → AbstractMachine
taken_back now update = withdrawn (unscratched now) update

-- What was saved of the machine can be put back then, and it is as it was, byte for byte.
pub record IsRestored (k now : AbstractMachine) (update : Update) : Type 0 where
  pub fits : CanBePutBack (taken_back now update).pieces (writable_pieces k.pieces)
  pub same : with_saved (taken_back now update) (writable_pieces k.pieces) ≡ k

-- A machine, one with an update more, and that with a scratch piece: whatever functions wrote, it is restored.
abbrev pub FailedHooksAreTakenBack : Type 0
FailedHooksAreTakenBack =
    (k made ready now : AbstractMachine) (update : Update) (range : Range) → IsBuilt k → IsBuilt ready
    → withdrawn made update ≡ k → ready.scratch ≡ Some range → unscratched ready ≡ made → LeavesAside ready now
    → IsRestored k now update
