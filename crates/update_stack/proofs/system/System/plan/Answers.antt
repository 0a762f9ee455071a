use Rattle.std.proofs.Common.{◌≡◌, ℕ, ◌≤◌, ◌<◌, true, false, List, length, arith, Result, Err, sym, ◌∙◌, ap, subst}
use Rattle.std.specs.List.{list_any}
use Rattle.ks_base.specs.declared.refusals.Refusal.{Refusal}
use Rattle.ks_base.specs.declared.refusals.Refusal.TheVariants.{NameTaken}
use Rattle.ks_base.specs.Gives.{Gives}
use Rattle.i386_reloc.specs.Normal.{same_bytes}
use Rattle.update_plan.specs.declared.types.Plan.{Plan}
use Rattle.update_plan.specs.Plan.{planned}
use Rattle.update_stack.specs.declared.updates.Update.{Update as Shown}
use Rattle.update_stack.specs.AbstractMachine.{AbstractMachine}
use Rattle.update_stack.specs.Systems.{machine_of, live_updates}
use Rattle.update_stack.specs.Apply.{has_name, planned_in, running_of, retired_of, gaps_of}
use Rattle.update_stack.proofs.ApplyLaws.{too_many, name_taken, name_free}
use Rattle.update_stack.proofs.FreshLaws.{live_length}
use Rattle.update_stack.proofs.LiveLaws.{named_live}
use Rattle.update_stack.proofs.PhaseLaws.{machine_seen}
use Rattle.update_stack.proofs.system.System.plan.Goals as goal

pub returns-then-len-ge-MOST_UPDATES : goal.returns-then-len-ge-MOST_UPDATES
returns-then-len-ge-MOST_UPDATES g c =
    let inside = c.self.inside in
    let k = machine_of inside.machine inside.arena inside.updates inside.kept in
    let many : 64 ≤ length (live_updates inside.updates inside.kept) =
    omega (
      arith,
      live_length inside.updates inside.kept c.self.invariant.paired,
      c.len.ensures,
      c.if-len-ge-MOST_UPDATES.true,
    ) in
    λ other. ap (λ (m : AbstractMachine). planned_in m c.args.name.now c.args.pre.now c.args.post.now)
    (sym (machine_seen c.self.view_is))
    ∙ too_many k c.args.name.now c.args.pre.now c.args.post.now many

pub returns-then-is_taken : goal.returns-then-is_taken
returns-then-is_taken g c =
    let inside = c.self.inside in
    let k = machine_of inside.machine inside.arena inside.updates inside.kept in
    let few : length (live_updates inside.updates inside.kept) < 64 =
    omega (
      arith,
      live_length inside.updates inside.kept c.self.invariant.paired,
      c.len.ensures,
      c.if-len-ge-MOST_UPDATES.false,
    ) in
    let has : list_any (has_name c.args.name.now) (live_updates inside.updates inside.kept) ≡ true =
    sym (named_live inside.updates inside.kept c.args.name.now c.self.invariant.paired)
    ∙ ap (list_any (λ (update : Shown). same_bytes update.name c.args.name.now)) (sym c.as_slice.ensures)
    ∙ sym c.is_taken.ensures ∙ c.if-is_taken.true in
    λ other. ap (λ (m : AbstractMachine). planned_in m c.args.name.now c.args.pre.now c.args.post.now)
    (sym (machine_seen c.self.view_is))
    ∙ name_taken k c.args.name.now c.args.pre.now c.args.post.now few has
    ∙ ap (λ (name : List ℕ). let r : Result Plan Refusal = Err (NameTaken name) in r)
    (sym (c.in_ok-name.ensures ∙ c.as_slice-then-is_taken.ensures))

pub returns : goal.returns
returns g c =
    let inside = c.self.inside in
    let k = machine_of inside.machine inside.arena inside.updates inside.kept in
    let few : length (live_updates inside.updates inside.kept) < 64 =
    omega (
      arith,
      live_length inside.updates inside.kept c.self.invariant.paired,
      c.len.ensures,
      c.if-len-ge-MOST_UPDATES.false,
    ) in
    let none : list_any (has_name c.args.name.now) (live_updates inside.updates inside.kept) ≡ false =
    sym (named_live inside.updates inside.kept c.args.name.now c.self.invariant.paired)
    ∙ ap (list_any (λ (update : Shown). same_bytes update.name c.args.name.now)) (sym c.as_slice.ensures)
    ∙ sym c.is_taken.ensures ∙ c.if-is_taken.false in
    let P : AbstractMachine → Type 0 = λ m. Gives (λ (plan : Plan). plan) c.plan_beside.result
    (planned (running_of m) (retired_of m) (gaps_of m) c.args.pre.now c.args.post.now) in
    subst (λ (m : AbstractMachine). Gives (λ (plan : Plan). plan) c.plan_beside.result
    (planned_in m c.args.name.now c.args.pre.now c.args.post.now)) (machine_seen c.self.view_is)
    (subst (Gives (λ (plan : Plan). plan) c.plan_beside.result)
    (sym (name_free k c.args.name.now c.args.pre.now c.args.post.now few none))
    (subst P (sym (machine_seen c.self.view_is)) c.plan_beside.ensures))
