-- An update at which listed functions run, by what its parts answer, and what is left where it is refused.
use Rattle.std.proofs.Common.{◌≡◌, ◌≢◌, ℕ, true, false, List, [], IsOkAnd, MatchResult, Option, Some, None}
use Rattle.std.proofs.Common.{Result, Ok, Err, refl, sym, ◌∙◌, ap, subst, arith}
use Rattle.ks_base.specs.declared.refusals.Refusal.{Refusal}
use Rattle.ks_base.specs.declared.refusals.Refusal.TheVariants.{Memory, BadHooks}
use Rattle.ks_base.specs.declared.reports.HookReport.{HookReport}
use Rattle.ks_base.specs.declared.reports.HookRun.{HookRun}
use Rattle.ks_base.specs.declared.reports.Report.{Report}
use Rattle.i386_reloc.specs.declared.types.Ref.{Ref}
use Rattle.i386_reloc.specs.Sections.{sections_of}
use Rattle.image_file.specs.Fields.{◌>>=◌}
use Rattle.image_memory.specs.declared.types.Piece.{Piece}
use Rattle.image_threads.specs.Program.{Program}
use Rattle.saved_data.specs.Saved.{writable_pieces}
use Rattle.splice_jump.specs.declared.phase.Phase.{Phase}
use Rattle.splice_jump.specs.declared.phase.Phase.TheVariants.{Done}
use Rattle.update_plan.specs.declared.types.Hook.{Hook}
use Rattle.update_plan.specs.declared.types.Plan.{Plan}
use Rattle.update_stack.specs.AbstractMachine.{AbstractMachine, Update, bodies_in, contents_of}
use Rattle.update_stack.specs.Apply.{accepted, applied, committed}
use Rattle.update_stack.specs.Aside.{LeavesAside, AsItWas, AfterStep, AfterSaved}
use Rattle.update_stack.specs.Events.{Apply, Applied, Hooks, Hooked, answered, apply_answered, happened, hooks_answered}
use Rattle.update_stack.specs.HookRuns.{Ran, ran_aside}
use Rattle.update_stack.specs.Hooks.{hooked, hooked_by, listed_in, report_with, run_listed, run_none}
use Rattle.update_stack.specs.Phases.{Phased, StandsIn, phased}
use Rattle.update_stack.specs.Stacked.{IsBuilt}
use Rattle.update_stack.specs.StandsFor.{Seen, patched}
use Rattle.update_stack.specs.Undo.{newest_update}
use Rattle.update_stack.specs.laws.StackedLaws.{built_sound}
use Rattle.apply_hooks.specs.Lists.{lists}
use Rattle.apply_hooks.specs.Runs.{LeavesRuns, NoneRan, SomeRan}
use Rattle.apply_hooks.proofs.SavedLaws.{saved_past_jumps}

-- ---- what stays while functions run
pub aside_scratch : (k now : AbstractMachine) → LeavesAside k now → now.scratch ≡ k.scratch
aside_scratch k _ AsItWas = refl
aside_scratch k _ (AfterStep now thread before) = aside_scratch k now before
aside_scratch k _ (AfterSaved now saved before fit) = aside_scratch k now before

aside_updates : (k now : AbstractMachine) → LeavesAside k now → now.updates ≡ k.updates
aside_updates k _ AsItWas = refl
aside_updates k _ (AfterStep now thread before) = aside_updates k now before
aside_updates k _ (AfterSaved now saved before fit) = aside_updates k now before

runs_updates : (k left : AbstractMachine) → LeavesRuns k left → left.updates ≡ k.updates
runs_updates k _ NoneRan = refl
runs_updates k _ (SomeRan ready now range built scratch goes aside) =
    aside_updates ready now aside ∙ ap (λ (m : AbstractMachine). m.updates) goes

-- the newest update, after what runs left
pub newest_left : (k left : AbstractMachine) (update : Update) → LeavesRuns k left → newest_update k ≡ Some update
    → newest_update left ≡ Some update
newest_left k left update leaves is =
    ap (λ (us : List Update). newest_update (record k { updates = us })) (runs_updates k left leaves) ∙ is

-- ---- what is saved is of the machine
pub saved_is : (k : AbstractMachine) (phase : Phase) (program : Program) (saved : List Piece) → IsBuilt k
    → phase ≡ Done → StandsIn phase program k → saved ≡ writable_pieces program.contents.pieces
    → saved ≡ writable_pieces k.pieces
unfolding patched
saved_is k phase program saved built done stands is =
    let sound = (built_sound k built).jumps in
    let whole : StandsIn Done program k = subst (λ (p : Phase). StandsIn p program k) done stands in
    is
    ∙ ap (λ (seen : Seen). writable_pieces seen.contents.pieces) whole
    ∙ saved_past_jumps (contents_of k) (bodies_in k.table) sound.valid sound.spliced

-- ---- the update
applied_err : (result : Result (AbstractMachine × Report) Refusal) (refusal : Refusal)
    → apply_answered result ≡ Err refusal → result ≡ Err refusal
applied_err (Err other) refusal is = grind (arith, is)
applied_err (Ok left) refusal is = grind (arith, is)

applied_ok : (result : Result (AbstractMachine × Report) Refusal) (k : AbstractMachine) (report : Report)
    → apply_answered result ≡ Ok (happened k (Applied report)) → result ≡ Ok (k, report)
applied_ok (Err other) k report is = grind (arith, is)
applied_ok (Ok left) k report is = grind (arith, is)

module _ (k : AbstractMachine) (name pre post : List ℕ) where
  pub apply_made : (made : AbstractMachine) (report : Report)
      → answered k (Apply name pre post) ≡ Ok (happened made (Applied report))
      → applied k name pre post ≡ Ok (made, report)
  unfolding answered
  apply_made made report is = applied_ok (applied k name pre post) made report is

  apply_refused : (refusal : Refusal) → answered k (Apply name pre post) ≡ Err refusal
      → applied k name pre post ≡ Err refusal
  unfolding answered
  apply_refused refusal is = applied_err (applied k name pre post) refusal is

  -- An update that is accepted: its plan, which lists functions.
  pub record IsAccepted (made : AbstractMachine) (report : Report) (hooks : List Hook) : Type 0 where
    pub plan : Plan
    pub plan_is : accepted k name pre post ≡ Ok plan
    pub made_is : committed k name plan ≡ made
    pub report_is : plan.report ≡ report
    pub hooks_are : plan.hooks ≡ hooks

  abbrev carried_out : Plan → AbstractMachine × Report
  carried_out plan = (committed k name plan, plan.report)

  by_plan : (made : AbstractMachine) (report : Report) (hooks : List Hook) (r : Result Plan Refusal)
      → accepted k name pre post ≡ r
      → (r >>= λ (plan : Plan). let o : Result (AbstractMachine × Report) Refusal = Ok (carried_out plan) in o)
      ≡ Ok (made, report)
      → IsOkAnd r (λ (plan : Plan). plan.hooks ≡ hooks) → IsAccepted made report hooks
  by_plan made report hooks (Err refusal) here goes listed = absurd cc
  by_plan made report hooks (Ok plan) here goes listed =
      let last : AbstractMachine × Report = (made, report) in
      let same : carried_out plan ≡ last = cc in
      record {
        plan = plan;
        plan_is = here;
        made_is = ap (λ (pair : AbstractMachine × Report). pair.0) same;
        report_is = ap (λ (pair : AbstractMachine × Report). pair.1) same;
        hooks_are = listed;
      }

  pub is_accepted : (made : AbstractMachine) (report : Report) (hooks : List Hook)
      → applied k name pre post ≡ Ok (made, report)
      → IsOkAnd (accepted k name pre post) (λ (plan : Plan). plan.hooks ≡ hooks) → IsAccepted made report hooks
  unfolding applied
  is_accepted made report hooks is listed = by_plan made report hooks (accepted k name pre post) refl is listed

  -- it leaves the scratch piece as it is
  pub scratch_stays : (made : AbstractMachine) (report : Report) (hooks : List Hook) → IsAccepted made report hooks
      → made.scratch ≡ k.scratch
  unfolding committed
  scratch_stays made report hooks is = sym (ap (λ (m : AbstractMachine). m.scratch) is.made_is)

  by_made : (made : AbstractMachine) (report : Report) (r : Result Plan Refusal)
      → (r >>= λ (plan : Plan). let o : Result (AbstractMachine × Report) Refusal = Ok (carried_out plan) in o)
      ≡ Ok (made, report)
      → made.scratch ≡ k.scratch
  unfolding committed
  by_made made report (Err refusal) goes = absurd cc
  by_made made report (Ok plan) goes =
      let last : AbstractMachine × Report = (made, report) in
      let same : carried_out plan ≡ last = cc in
      sym (ap (λ (pair : AbstractMachine × Report). pair.0.scratch) same)

  pub applied_scratch : (made : AbstractMachine) (report : Report)
      → answered k (Apply name pre post) ≡ Ok (happened made (Applied report)) → made.scratch ≡ k.scratch
  unfolding applied
  applied_scratch made report is =
      by_made made report (accepted k name pre post) (apply_made made report is)

  -- and its functions are run
  abbrev ran_by : Plan → Result (AbstractMachine × HookReport) Refusal
  ran_by plan =
      ran_aside plan.hooks (committed k name plan)
      >>= λ (ran : Ran). let o : Result (AbstractMachine × HookReport) Refusal =
      Ok (ran.0, report_with plan.report ran.1) in o

  abbrev ran_with : Report → Result Ran Refusal → Result (AbstractMachine × HookReport) Refusal
  ran_with report result =
      result >>= λ (ran : Ran). let o : Result (AbstractMachine × HookReport) Refusal =
      Ok (ran.0, report_with report ran.1) in o

  listed_is : (made : AbstractMachine) (report : Report) (hooks : List Hook) → IsAccepted made report hooks
      → run_listed k name pre post ≡ ran_with report (ran_aside hooks made)
  unfolding run_listed
  listed_is made report hooks is =
      ap (λ (r : Result Plan Refusal). r >>= ran_by) is.plan_is
      ∙ ap (λ (o : List Hook). ran_with is.plan.report (ran_aside o (committed k name is.plan))) is.hooks_are
      ∙ ap (λ (m : AbstractMachine). ran_with is.plan.report (ran_aside hooks m)) is.made_is
      ∙ ap (λ (r : Report). ran_with r (ran_aside hooks made)) is.report_is

  pub listed_made : (made now : AbstractMachine) (report : Report) (hooks : List Hook) (runs : List HookRun)
      → IsAccepted made report hooks → ran_aside hooks made ≡ Ok (now, runs)
      → run_listed k name pre post ≡ Ok (now, report_with report runs)
  listed_made made now report hooks runs is ran =
      listed_is made report hooks is ∙ ap (ran_with report) ran

  pub listed_refused : (made : AbstractMachine) (report : Report) (hooks : List Hook) (refusal : Refusal)
      → IsAccepted made report hooks → ran_aside hooks made ≡ Err refusal
      → run_listed k name pre post ≡ Err refusal
  listed_refused made report hooks refusal is ran = listed_is made report hooks is ∙ ap (ran_with report) ran

  by_refusal : (refusal : Refusal) (r : Result Plan Refusal)
      → (r >>= λ (plan : Plan). let o : Result (AbstractMachine × Report) Refusal = Ok (carried_out plan) in o)
      ≡ Err refusal
      → (r >>= ran_by) ≡ Err refusal
  by_refusal refusal (Err other) is = grind (arith, is)
  by_refusal refusal (Ok plan) is = absurd cc

  pub none_listed : (refusal : Refusal) → answered k (Apply name pre post) ≡ Err refusal
      → run_listed k name pre post ≡ Err refusal
  unfolding run_listed applied
  none_listed refusal is = by_refusal refusal (accepted k name pre post) (apply_refused refusal is)

  -- ---- the event
  by_listed : (r : Result (Option (List Ref)) ℕ) → lists r ≡ Ok true
      → hooked_by k name pre post r ≡ run_listed k name pre post
  by_listed (Err offset) is = absurd cc
  by_listed (Ok None) is = absurd cc
  by_listed (Ok (Some references)) is = refl

  by_unlisted : (r : Result (Option (List Ref)) ℕ) → lists r ≡ Ok false
      → hooked_by k name pre post r ≡ run_none (applied k name pre post)
  by_unlisted (Err offset) is = absurd cc
  by_unlisted (Ok None) is = refl
  by_unlisted (Ok (Some references)) is = absurd cc

  by_broken : (r : Result (Option (List Ref)) ℕ) (refusal : Refusal) → lists r ≡ Err refusal
      → hooked_by k name pre post r ≡ Err refusal
  by_broken (Err offset) refusal is =
      let same : BadHooks offset ≡ refusal = cc in
      ap (λ (r : Refusal). let o : Result (AbstractMachine × HookReport) Refusal = Err r in o) same
  by_broken (Ok None) refusal is = absurd cc
  by_broken (Ok (Some references)) refusal is = absurd cc

  pub broken_answers : (refusal : Refusal) → lists (listed_in (sections_of post)) ≡ Err refusal
      → answered k (Hooks name pre post) ≡ Err refusal
  unfolding answered hooked
  broken_answers refusal is = ap hooks_answered (by_broken (listed_in (sections_of post)) refusal is)

  event_is : lists (listed_in (sections_of post)) ≡ Ok true
      → answered k (Hooks name pre post) ≡ hooks_answered (run_listed k name pre post)
  unfolding answered hooked
  event_is is = ap hooks_answered (by_listed (listed_in (sections_of post)) is)

  event_without : lists (listed_in (sections_of post)) ≡ Ok false
      → answered k (Hooks name pre post) ≡ hooks_answered (run_none (applied k name pre post))
  unfolding answered hooked
  event_without is = ap hooks_answered (by_unlisted (listed_in (sections_of post)) is)

  pub listed_answers : (now : AbstractMachine) (r : Result HookReport Refusal)
      → lists (listed_in (sections_of post)) ≡ Ok true
      → MatchResult r (λ (done : HookReport). run_listed k name pre post ≡ Ok (now, done))
      (λ (refusal : Refusal). refusal ≢ Memory → run_listed k name pre post ≡ Err refusal)
      → MatchResult r (λ (done : HookReport). answered k (Hooks name pre post) ≡ Ok (happened now (Hooked done)))
      (λ (refusal : Refusal). refusal ≢ Memory → answered k (Hooks name pre post) ≡ Err refusal)
  listed_answers now (Ok done) is ran = event_is is ∙ ap hooks_answered ran
  listed_answers now (Err refusal) is ran = λ other. event_is is ∙ ap hooks_answered (ran other)

  pub applied_answers : (now : AbstractMachine) (report : Report) → lists (listed_in (sections_of post)) ≡ Ok false
      → answered k (Apply name pre post) ≡ Ok (happened now (Applied report))
      → answered k (Hooks name pre post) ≡ Ok (happened now (Hooked (report_with report [])))
  applied_answers now report is made =
      event_without is
      ∙ ap (λ (r : Result (AbstractMachine × Report) Refusal). hooks_answered (run_none r)) (apply_made now report made)

  pub refused_answers : (refusal : Refusal) → lists (listed_in (sections_of post)) ≡ Ok false
      → answered k (Apply name pre post) ≡ Err refusal → answered k (Hooks name pre post) ≡ Err refusal
  refused_answers refusal is why =
      event_without is
      ∙ ap (λ (r : Result (AbstractMachine × Report) Refusal). hooks_answered (run_none r)) (apply_refused refusal why)

-- a system is seen as its machine and its phase
pub same_phased : (a b : Phased) → a.machine ≡ b.machine → a.phase ≡ b.phase → a ≡ b
same_phased a b machine phase =
    ap (λ (m : AbstractMachine). phased m a.phase) machine ∙ ap (phased b.machine) phase
