use Rattle.std.proofs.Common.{List, Result, sym, ◌∙◌, ap, subst}
use Rattle.std.specs.List.{flat_map}
use Rattle.std.specs.List.Sorted.{IsPermutation}
use Rattle.ks_base.specs.Gives.{Gives}
use Rattle.ks_base.specs.declared.places.Range.{Range}
use Rattle.ks_base.specs.declared.refusals.Refusal.{Refusal}
use Rattle.image_memory.specs.Ranges.{Ascends}
use Rattle.symbol_table.specs.Table.{Table}
use Rattle.symbol_table.specs.Bodies.{newest}
use Rattle.update_plan.specs.declared.types.Plan.{Plan}
use Rattle.update_plan.specs.Plan.{planned}
use Rattle.update_stack.specs.declared.updates.Update.{Update as Shown}
use Rattle.update_stack.specs.declared.updates.Kept.{Kept}
use Rattle.update_stack.specs.AbstractMachine.{AbstractMachine, bodies_in}
use Rattle.update_stack.specs.Apply.{running_of, retired_of, gaps_of}
use Rattle.update_stack.specs.Systems.{gaps_left, machine_of, table_of}
use Rattle.update_stack.specs.laws.StackedLaws.{built_sound}
use Rattle.update_stack.proofs.LiveLaws.{retired_live}
use Rattle.update_stack.proofs.PlanLaws.{gaps_ascend, memory_of, bodies_spliced, IsBeside, PlanLaws, plan_beside}
use Rattle.update_stack.proofs.PhaseLaws.{done_holds, machine_seen}
use Rattle.update_stack.proofs.system.System.plan_beside.Goals as goal

pub plan-requires-clause-spliced : goal.plan-requires-clause-spliced
plan-requires-clause-spliced g c =
    let inside = c.self.inside in
    let holds = done_holds inside.machine inside.arena inside.updates inside.kept c.self.view_is c.requires.done
    c.self.invariant in
    let machine = inside.machine in
    let k = machine_of machine inside.arena inside.updates inside.kept in
    bodies_spliced c.homes_stay_spliced.ensures.jumped k (g.S.Space.contents c.space-space.result.now)
    c.in_ok-bodies.bodies (built_sound k c.self.invariant.built)
    (c.space-space.ensures.contents ∙ memory_of machine k holds.stands)
    (subst (λ (us : List Shown). IsPermutation (bodies_in (table_of us)) c.in_ok-bodies.bodies) c.as_slice.ensures
    c.in_ok-bodies.ensures.rows)

pub plan-requires-clause-gaps : goal.plan-requires-clause-gaps
plan-requires-clause-gaps g c =
    let inside = c.self.inside in
    let k = machine_of inside.machine inside.arena inside.updates inside.kept in
    subst (λ (gaps : List Range). Ascends (λ (range : Range). range) 0 gaps)
    (sym (c.in_ok-gaps.ensures
    ∙ ap (gaps_left inside.arena) c.as_slice-3.ensures
    ∙ c.kept_ranges_leave_the_gaps.ensures k inside.kept c.self.invariant.built c.self.invariant.are_kept))
    (gaps_ascend c.gaps_are_free.ensures.ascend k)

pub returns : goal.returns
returns g c =
    let inside = c.self.inside in
    let holds = done_holds inside.machine inside.arena inside.updates inside.kept c.self.view_is c.requires.done
    c.self.invariant in
    let machine = inside.machine in
    let k = machine_of machine inside.arena inside.updates inside.kept in
    let contents = g.S.Space.contents c.space-space.result.now in
    let symbols = c.symbols-symbols.result.now.symbols in
    let bodies = c.in_ok-bodies.bodies in
    let retired = c.in_ok-retired.retired in
    let laws : PlanLaws = record {
      views = c.jumps_leave_views.ensures;
      looks = c.jumps_change_their_bytes_alone.ensures.data_looks;
      held = c.jumps_change_their_bytes_alone.ensures.held;
      kinds = c.jumps_change_their_bytes_alone.ensures.kinds;
      places = c.jumps_change_their_bytes_alone.ensures.ranges;
      one_plan = c.alike_programs_have_one_plan.ensures;
    } in
    let beside : IsBeside k contents symbols bodies retired c.in_ok-gaps.gaps = record {
      built = c.self.invariant.built;
      memory = c.space-space.ensures.contents ∙ memory_of machine k holds.stands;
      symbols_are = ap (λ (t : Table). t.symbols) c.symbols-symbols.ensures;
      newest_are = λ home.
          c.in_ok-bodies.ensures.newest home
          ∙ ap (λ (us : List Shown). newest (bodies_in (table_of us)) home) c.as_slice.ensures;
      retired_are =
          c.in_ok-retired.ensures
          ∙ ap (λ (ks : List Kept). flat_map (λ (one : Kept). one.retired) ks) c.as_slice-2.ensures
          ∙ retired_live inside.updates inside.kept c.self.invariant.paired;
      gaps_are =
          c.in_ok-gaps.ensures
          ∙ ap (gaps_left inside.arena) c.as_slice-3.ensures
          ∙ c.kept_ranges_leave_the_gaps.ensures k inside.kept c.self.invariant.built c.self.invariant.are_kept;
    } in
    let given : Gives (λ (plan : Plan). plan) c.plan.result
    (planned (running_of k) (retired_of k) (gaps_of k) c.args.pre.now c.args.post.now) =
    subst (λ (r : Result Plan Refusal). Gives (λ (plan : Plan). plan) c.plan.result r)
    (plan_beside laws k contents symbols bodies retired c.in_ok-gaps.gaps c.args.pre.now c.args.post.now beside)
    c.plan.ensures in
    subst (λ (m : AbstractMachine). Gives (λ (plan : Plan). plan) c.plan.result
    (planned (running_of m) (retired_of m) (gaps_of m) c.args.pre.now c.args.post.now)) (machine_seen
    c.self.view_is) given
