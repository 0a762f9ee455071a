-- That new code stays where threads come to it: whatever happens, until a later update replaces the function again or
-- retires this code, or the update that brought the code is taken back.
use Rattle.std.specs.Prelude.{◌≡◌, ℕ, true, false, List, [], ◌∷◌, ◌++◌, IfSome, Result, Ok, Err}
use Rattle.std.specs.List.{All, Contains, list_any}
use Rattle.ks_base.specs.declared.refusals.Refusal.{Refusal}
use Rattle.ks_base.specs.declared.reports.Report.{Report}
use Rattle.ks_base.specs.declared.reports.HookReport.{HookReport}
use Rattle.image_file.specs.Reading.{Contents as Image, image_of}
use Rattle.image_memory.specs.Ranges.{lies_in}
use Rattle.update_plan.specs.Addresses.{AreSteps}
use Rattle.update_plan.specs.Sound.{is_replaced_at}
use Rattle.update_stack.specs.AbstractMachine.{AbstractMachine, Update, first_machine}
use Rattle.update_stack.specs.Apply.{running_of, gaps_of, applied}
use Rattle.update_stack.specs.Hooks.{hooked}
use Rattle.update_stack.specs.Undo.{newest_update, named}
use Rattle.update_stack.specs.Events.{Event, Answer, Happened, Spawned, Stepped, Applied, Hooked, Undone}
use Rattle.update_stack.specs.Events.{answered, after_event, after_events}
use Rattle.update_stack.specs.Reached.{IsReached}

-- A live update replaced a function with this home and brought the code at this base, and no update since then replaced
-- one with this home.
pub record IsNewest (k : AbstractMachine) (home base : ℕ) : Type 0 where
  pub earlier : List Update
  pub update : Update
  pub later : List Update
  pub parts : k.updates ≡ earlier ++ update ∷ later
  pub replaced : is_replaced_at update.report.replaced home ≡ true
  pub brought : Contains update.pieces base
  pub last : All (λ (one : Update). is_replaced_at one.report.replaced home ≡ false) later

-- An update that was accepted, with this report, leaves a home and the code at a base alone: it replaces no function with
-- this home and retires no range that has this base.
abbrev pub UpdateLeavesAlone : Happened → Report → (home base : ℕ) → Type 0
UpdateLeavesAlone now report home base =
    (is_replaced_at report.replaced home ≡ false)
    × IfSome (newest_update now.machine) (λ update. list_any (lies_in base) update.retired ≡ false)

-- An event leaves both alone: an update does, with functions run or without; and one that is taken back replaced no
-- function with this home.
abbrev pub LeavesAloneBy : AbstractMachine → Happened → Answer → (home base : ℕ) → Type 0
LeavesAloneBy before now (Spawned thread) home base = Unit {0}
LeavesAloneBy before now (Stepped outcome) home base = Unit {0}
LeavesAloneBy before now (Applied report) home base = UpdateLeavesAlone now report home base
LeavesAloneBy before now (Hooked done) home base = UpdateLeavesAlone now done.report home base
LeavesAloneBy before now (Undone name) home base =
    IfSome (named before name) (λ update. is_replaced_at update.report.replaced home ≡ false)

abbrev pub LeavesAlone : AbstractMachine → Result Happened Refusal → (home base : ℕ) → Type 0
LeavesAlone before (Err refusal) home base = Unit {0}
LeavesAlone before (Ok now) home base = LeavesAloneBy before now now.answer home base

-- and so does each event of a list; one that is refused changes nothing
abbrev pub LeaveAlone : AbstractMachine → List Event → (home base : ℕ) → Type 0
LeaveAlone k [] home base = Unit {0}
LeaveAlone k (event ∷ events) home base =
    LeavesAlone k (answered k event) home base × LeaveAlone (after_event k event) events home base

-- What an update of k replaced is reached after each list of events that leaves its home and its new code alone.
pub record StayReached (k : AbstractMachine) (pre_file post_file : List ℕ) (now : AbstractMachine) (report : Report)
    : Type 0 where
  pub steps : AreSteps (running_of k) (gaps_of k) pre_file post_file
  pub each : All (λ one. (events : List Event) → LeaveAlone now events one.home one.base
      → IsReached k pre_file post_file steps (after_events now events) one) report.replaced

-- So it is of every update that is accepted in a list of events from the start of an image.
abbrev pub NewCodeStaysReached : Type 0
NewCodeStaysReached =
    (file : List ℕ) (image : Image) (events : List Event) (name pre_file post_file : List ℕ) (now : AbstractMachine)
    (report : Report) → image_of file ≡ Ok image
    → applied (after_events (first_machine image) events) name pre_file post_file ≡ Ok (now, report)
    → StayReached (after_events (first_machine image) events) pre_file post_file now report

-- And so it is of every one that is accepted and at which functions were run.
abbrev pub HookedCodeStaysReached : Type 0
HookedCodeStaysReached =
    (file : List ℕ) (image : Image) (events : List Event) (name pre_file post_file : List ℕ) (now : AbstractMachine)
    (done : HookReport) → image_of file ≡ Ok image
    → hooked (after_events (first_machine image) events) name pre_file post_file ≡ Ok (now, done)
    → StayReached (after_events (first_machine image) events) pre_file post_file now done.report
