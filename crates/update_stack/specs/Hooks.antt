-- An update that runs the functions which its new object lists: accepted by the update rule, and then each of them has
-- returned; or all is refused.
use Rattle.std.specs.Prelude.{ℕ, List, [], Option, Some, None, Result, Ok, Err}
use Rattle.ks_base.specs.declared.refusals.Refusal.{Refusal}
use Rattle.ks_base.specs.declared.refusals.Refusal.TheVariants.{BadHooks}
use Rattle.ks_base.specs.declared.reports.Report.{Report}
use Rattle.ks_base.specs.declared.reports.HookRun.{HookRun}
use Rattle.ks_base.specs.declared.reports.HookReport.{HookReport}
use Rattle.i386_reloc.specs.declared.types.NormalSection.{NormalSection}
use Rattle.i386_reloc.specs.declared.types.Ref.{Ref}
use Rattle.i386_reloc.specs.Sections.{sections_of}
use Rattle.image_file.specs.Fields.{◌>>=◌}
use Rattle.hook_list.specs.Listed.{listed}
use Rattle.update_stack.specs.AbstractMachine.{AbstractMachine}
use Rattle.update_stack.specs.Apply.{accepted, applied, committed}
use Rattle.update_stack.specs.HookRuns.{ran_aside}

-- the list of an object file, where that is read and has one; or where the list is broken
abbrev pub listed_in : Result (List NormalSection) Refusal → Result (Option (List Ref)) ℕ
listed_in (Err refusal) = Ok None
listed_in (Ok sections) = listed sections

abbrev pub report_with : Report → List HookRun → HookReport
report_with report hooks = record { report = report; hooks = hooks }

-- The update, and then the runs of its functions. The first refusal: those of the update, and then those of the runs.
unfoldable pub run_listed : AbstractMachine → (name pre_file post_file : List ℕ)
    → Result (AbstractMachine × HookReport) Refusal
run_listed k name pre_file post_file = do
  plan ← accepted k name pre_file post_file
  ran ← ran_aside plan.hooks (committed k name plan)
  Ok (ran.0, report_with plan.report ran.1)

-- an update at which no function is run
abbrev pub run_none : Result (AbstractMachine × Report) Refusal → Result (AbstractMachine × HookReport) Refusal
run_none (Err refusal) = Err refusal
run_none (Ok left) = Ok (left.0, report_with left.1 [])

abbrev pub hooked_by : AbstractMachine → (name pre_file post_file : List ℕ) → Result (Option (List Ref)) ℕ
    → Result (AbstractMachine × HookReport) Refusal
hooked_by k name pre_file post_file (Err offset) = Err (BadHooks offset)
hooked_by k name pre_file post_file (Ok None) = run_none (applied k name pre_file post_file)
hooked_by k name pre_file post_file (Ok (Some references)) = run_listed k name pre_file post_file

-- The machine after an update whose new object may list functions, and what it did. A broken list is refused before all
-- else; where the object isn't read, or lists none, it is an update as any other.
unfoldable pub hooked : AbstractMachine → (name pre_file post_file : List ℕ)
    → Result (AbstractMachine × HookReport) Refusal
hooked k name pre_file post_file = hooked_by k name pre_file post_file (listed_in (sections_of post_file))
