-- Once the scratch piece is gone and the update is taken back, the machine differs from the one before it in data alone.
use Rattle.std.proofs.Common.{◌≡◌, sym, ◌∙◌, ap, subst}
use Rattle.image_memory.specs.Contents.{Contents, IsValid}
use Rattle.saved_data.specs.Saved.{CanBePutBack, DiffersInData, put_back, writable_pieces}
use Rattle.update_stack.specs.AbstractMachine.{AbstractMachine, Update, contents_of}
use Rattle.update_stack.specs.Aside.{DiffersAside, over_pieces}
use Rattle.update_stack.specs.PutBack.{with_saved}
use Rattle.update_stack.specs.Scratch.{unscratched}
use Rattle.update_stack.specs.Stacked.{IsBuilt}
use Rattle.update_stack.specs.Undo.{withdrawn}
use Rattle.update_stack.specs.laws.DataLaws.{DataLaws, aside_differs, itself, scratch_gone, update_gone}
use Rattle.update_stack.specs.laws.StackedLaws.{built_sound}
use Rattle.apply_hooks.specs.Restored.{FailedHooksAreTakenBack, taken_back}
use Rattle.apply_hooks.specs.Runs.{LeavesRuns, NoneRan, SomeRan}

-- What was saved of a machine can be put back in another, and gives that machine.
pub record ComesBack (k left : AbstractMachine) : Type 0 where
  pub fits : CanBePutBack left.pieces (writable_pieces k.pieces)
  pub same : with_saved left (writable_pieces k.pieces) ≡ k

pub record SavesLaws : Type 0 where
  pub fit : (before after : Contents) → IsValid before → DiffersInData before after
      → CanBePutBack after.pieces (writable_pieces before.pieces)
  pub same : (before after : Contents) → IsValid before → DiffersInData before after
      → put_back after (writable_pieces before.pieces) ≡ before

comes_back : SavesLaws → (k left : AbstractMachine) → IsBuilt k → DiffersAside k left → ComesBack k left
comes_back laws k left built differs =
    let sound = (built_sound k built).jumps.valid in
    let own : contents_of (over_pieces k left.pieces) ≡ contents_of left = sym (ap contents_of differs.rest) in
    record {
      fits = laws.fit (contents_of k) (contents_of left) sound differs.differ;
      same =
          ap (λ (m : AbstractMachine). with_saved m (writable_pieces k.pieces)) differs.rest
          ∙ ap (λ (c : Contents). over_pieces k c.pieces)
          (ap (λ (c : Contents). put_back c (writable_pieces k.pieces)) own
          ∙ laws.same (contents_of k) (contents_of left) sound differs.differ);
    }

pub restored : DataLaws → FailedHooksAreTakenBack
restored laws k made ready now update range built_k built back scratch goes aside =
    let valid = (built_sound ready built).jumps.valid in
    let differs = aside_differs laws ready now valid aside in
    let left = update_gone laws (unscratched ready) (unscratched now) update
    (scratch_gone laws ready now range scratch differs) in
    let before : withdrawn (unscratched ready) update ≡ k =
    ap (λ (m : AbstractMachine). withdrawn m update) goes ∙ back in
    let all : DiffersAside k (taken_back now update) =
    subst (λ (m : AbstractMachine). DiffersAside m (taken_back now update)) before left in
    let come = comes_back (record { fit = laws.fit; same = laws.same }) k (taken_back now update) built_k all in
    record { fits = come.fits; same = come.same }

-- the same of whatever failed runs leave of a machine with an update more
pub runs_come_back : FailedHooksAreTakenBack → SavesLaws → (k made left : AbstractMachine) (update : Update) → IsBuilt k
    → withdrawn made update ≡ k → LeavesRuns made left → ComesBack k (withdrawn left update)
runs_come_back taken laws k made _ update built back NoneRan =
    subst (λ (m : AbstractMachine). ComesBack k m) (sym back) (comes_back laws k k built (itself k))
runs_come_back taken laws k made _ update built back (SomeRan ready now range sound scratch goes aside) =
    let is = taken k made ready now update range built sound back scratch goes aside in
    record { fits = is.fits; same = is.same }
