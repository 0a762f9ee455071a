-- The update rule, by its first refusal or what it makes.
use Rattle.std.proofs.Common.{◌≡◌, ℕ, ◌≤◌, ◌<◌, true, false, List, length, Option, Some, None}
use Rattle.std.proofs.Common.{Result, Ok, Err}
use Rattle.std.proofs.Common.{refl, sym, ap, ◌∙◌, arith, nat_le, IfOk, OnOk}
use Rattle.std.specs.declared.alloc.AllocError.{AllocError}
use Rattle.std.specs.List.{list_any}
use Rattle.std.specs.Result.{result_err}
use Rattle.std.proofs.lemmas.Bool.Decides.{nat_tests}
use Rattle.ks_base.specs.declared.refusals.Refusal.{Refusal}
use Rattle.ks_base.specs.declared.refusals.Refusal.TheVariants.{TooMany, NameTaken, Memory}
use Rattle.ks_base.specs.declared.reports.Report.{Report}
use Rattle.stack_scan.specs.Standing.{thread_refusal}
use Rattle.update_plan.specs.declared.types.Hook.{Hook}
use Rattle.update_plan.specs.declared.types.Plan.{Plan}
use Rattle.update_plan.specs.Plan.{planned}
use Rattle.update_stack.specs.AbstractMachine.{AbstractMachine}
use Rattle.update_stack.specs.Apply.{has_name, name_refusal, running_of, retired_of, gaps_of, planned_in, committed}
use Rattle.update_stack.specs.Apply.{accepted, applied}
use Rattle.update_stack.specs.Events.{Apply, Applied, Happened, happened, answered}

module _ (k : AbstractMachine) (name pre post : List ℕ) where
  -- where as many updates are live as may be
  pub too_many : 64 ≤ length k.updates → planned_in k name pre post ≡ Err TooMany
  unfolding planned_in name_refusal
  too_many many =
      let test : nat_le 64 (length k.updates) ≡ true = grind (arith, nat_tests) in
      rw test refl

  -- where a live one has the name
  pub name_taken : length k.updates < 64 → list_any (has_name name) k.updates ≡ true
      → planned_in k name pre post ≡ Err (NameTaken name)
  unfolding planned_in name_refusal
  name_taken few has =
      let test : nat_le 64 (length k.updates) ≡ false = grind (arith, nat_tests) in
      rw test (rw has refl)

  -- and otherwise
  pub name_free : length k.updates < 64 → list_any (has_name name) k.updates ≡ false
      → planned_in k name pre post ≡ planned (running_of k) (retired_of k) (gaps_of k) pre post
  unfolding planned_in name_refusal
  name_free few none =
      let test : nat_le 64 (length k.updates) ≡ false = grind (arith, nat_tests) in
      rw test (rw none refl)

  -- what the plan refuses, and what the threads refuse
  pub plan_refused : (refusal : Refusal) → planned_in k name pre post ≡ Err refusal
      → answered k (Apply name pre post) ≡ Err refusal
  unfolding answered accepted applied
  plan_refused refusal is = rw is refl

  pub thread_refused : (plan : Plan) (refusal : Refusal) → planned_in k name pre post ≡ Ok plan
      → thread_refusal k.pieces plan.guarded k.threads ≡ Some refusal
      → answered k (Apply name pre post) ≡ Err refusal
  unfolding answered accepted applied
  thread_refused plan refusal is stands = rw is (rw stands refl)

  -- and what comes of a plan otherwise
  pub plan_accepted : (plan : Plan) → planned_in k name pre post ≡ Ok plan
      → thread_refusal k.pieces plan.guarded k.threads ≡ None → accepted k name pre post ≡ Ok plan
  unfolding accepted
  plan_accepted plan is clear = rw is (rw clear refl)

  pub plan_made : (plan : Plan) → planned_in k name pre post ≡ Ok plan
      → thread_refusal k.pieces plan.guarded k.threads ≡ None
      → answered k (Apply name pre post) ≡ Ok (happened (committed k name plan) (Applied plan.report))
  unfolding answered accepted applied
  plan_made plan is clear = rw is (rw clear refl)

-- what comes of a plan that was carried out as it is held, for whichever files it is the machine's
pub plan_carried : (k now : AbstractMachine) (name : List ℕ) (plan held : Plan)
    (result : Result (Report × List Hook) AllocError) → held ≡ plan
    → thread_refusal k.pieces plan.guarded k.threads ≡ None → IfOk result (λ made. made.0 ≡ held.report)
    → OnOk result (now ≡ committed k name held)
    → IfOk result (λ made. (pre post : List ℕ) → planned_in k name pre post ≡ Ok plan
    → answered k (Apply name pre post) ≡ Ok (happened now (Applied made.0)))
plan_carried k now name plan held (Ok made) same clear report is = λ pre post planned_is.
    plan_made k name pre post plan planned_is clear
    ∙ ap (λ (m : AbstractMachine). let r : Result Happened Refusal = Ok (happened m (Applied plan.report)) in r)
    (sym (is ∙ ap (committed k name) same))
    ∙ ap (λ (one : Report). let r : Result Happened Refusal = Ok (happened now (Applied one)) in r)
    (sym (report ∙ ap (λ (p : Plan). p.report) same))
plan_carried k now name plan held (Err e) same clear report is = tt
