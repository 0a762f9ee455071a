-- What holds of an update that no later one covers, in a machine that is built: it can be taken out from among the
-- others.
use Rattle.std.specs.Prelude.{◌≡◌, ◌≢◌, Some, None}
use Rattle.std.specs.List.{All, Contains}
use Rattle.ks_base.specs.declared.reports.Replaced.{Replaced}
use Rattle.update_stack.specs.AbstractMachine.{AbstractMachine, Update, base_of}
use Rattle.update_stack.specs.Undo.{named, later_than, cover_refusal, withdrawn}
use Rattle.update_stack.specs.Stacked.{IsBuilt}

-- a live update of a machine that is built, which no later one covers
pub record IsUncovered (k : AbstractMachine) (update : Update) : Type 0 where
  pub built : IsBuilt k
  pub live : named k update.name ≡ Some update
  pub uncovered : cover_refusal k update ≡ None

-- Its bases are the last of their homes' rows: a later update of such a home would have retired a range that begins at
-- its base. So none has replaced one of them.
abbrev pub LeadsThere : AbstractMachine → Replaced → Type 0
LeadsThere k one = base_of k one.home ≡ one.base

abbrev pub UncoveredIsNewest : Type 0
UncoveredIsNewest =
    (k : AbstractMachine) (update : Update) → IsUncovered k update → All (LeadsThere k) update.report.replaced

abbrev pub HasOtherHomes : Update → Update → Type 0
HasOtherHomes update later =
    All (λ (one : Replaced). All (λ (other : Replaced). one.home ≢ other.home) later.report.replaced)
    update.report.replaced

abbrev pub UncoveredIsAlone : Type 0
UncoveredIsAlone =
    (k : AbstractMachine) (update : Update) → IsUncovered k update
    → All (HasOtherHomes update) (later_than update.name k.updates)

-- Without it the machine is built.
abbrev pub UncoveredCanGo : Type 0
UncoveredCanGo = (k : AbstractMachine) (update : Update) → IsUncovered k update → IsBuilt (withdrawn k update)

-- It goes before as after a later one.
abbrev pub UncoveredGoesPast : Type 0
UncoveredGoesPast =
    (k : AbstractMachine) (update later : Update) → IsUncovered k update
    → Contains (later_than update.name k.updates) later
    → withdrawn (withdrawn k update) later ≡ withdrawn (withdrawn k later) update
