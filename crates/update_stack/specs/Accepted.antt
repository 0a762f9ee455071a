-- What an accepted update lies on: the machine without it is the one before it, all that stood in memory stands on in
-- the code below its jumps, and these are written over that. What its report says where its objects differ in one
-- function. And that what live updates retired isn't met.
use Rattle.std.specs.Prelude.{◌≡◌, ℕ, true, IsTrue, List, None, Some, Ok, IsSome, IsOkAnd}
use Rattle.std.specs.List.{list_any, All}
use Rattle.ks_base.specs.declared.reports.Report.{Report}
use Rattle.image_memory.specs.Ranges.{lies_in}
use Rattle.image_memory.specs.Contents.{look_at}
use Rattle.image_memory.specs.Fetch.{bytes_met}
use Rattle.splice_jump.specs.Jumps.{jumped}
use Rattle.update_plan.specs.OneFunction.{ReportsOne, extract_of, is_one_changed}
use Rattle.update_stack.specs.AbstractMachine.{AbstractMachine, Update, jump_rows, view_in}
use Rattle.update_stack.specs.Apply.{applied, retired_of}
use Rattle.update_stack.specs.StandsFor.{patched}
use Rattle.update_stack.specs.Stacked.{IsBuilt, code_before}
use Rattle.update_stack.specs.Uncovered.{LeadsThere}
use Rattle.update_stack.specs.Undo.{newest_update, withdrawn}

-- The update is the newest, with its report, and the machine without it is that before it. Whatever stood at an address
-- of the system's memory stands there in the code without the update's jumps.
pub record LiesOnTop (before now : AbstractMachine) (report : Report) : Type 0 where
  pub built : IsBuilt now
  pub update : Update
  pub newest : newest_update now ≡ Some update
  pub reported : update.report ≡ report
  pub back : withdrawn now update ≡ before
  pub stays : (address : ℕ) → IsSome (look_at (patched before).pieces address)
      → look_at (code_before now update) address ≡ look_at (patched before).pieces address

abbrev pub AcceptedLieOnTop : Type 0
AcceptedLieOnTop =
    (k now : AbstractMachine) (name pre_file post_file : List ℕ) (report : Report) → IsBuilt k
    → applied k name pre_file post_file ≡ Ok (now, report) → LiesOnTop k now report

-- The jumps of a machine with updates are those of the newest one, written over the code that is there without it; and
-- each goes where its home goes on.
pub record HasJumpsOnTop (k : AbstractMachine) (update : Update) : Type 0 where
  pub memory : (patched k).pieces ≡ jumped (jump_rows update.report.replaced) (code_before k update)
  pub leads : All (LeadsThere k) update.report.replaced

abbrev pub JumpsLieOnTop : Type 0
JumpsLieOnTop =
    (k : AbstractMachine) (update : Update) → IsBuilt k → newest_update k ≡ Some update → HasJumpsOnTop k update

-- The objects of an accepted update have a difference; where that is one changed function alone, the report says that
-- this one was replaced, and no other.
abbrev pub SinglesReplaceOne : Type 0
SinglesReplaceOne =
    (k now : AbstractMachine) (name pre_file post_file : List ℕ) (report : Report) → IsBuilt k
    → applied k name pre_file post_file ≡ Ok (now, report)
    → IsOkAnd (extract_of pre_file post_file) (λ extract. is_one_changed extract ≡ true → ReportsOne report)

-- No thread meets code that a live update retired.
abbrev pub RetiredIsNotMet : Type 0
RetiredIsNotMet =
    (k : AbstractMachine) (address : ℕ) → IsBuilt k → IsTrue (list_any (lies_in address) (retired_of k))
    → bytes_met (view_in k address) ≡ None
