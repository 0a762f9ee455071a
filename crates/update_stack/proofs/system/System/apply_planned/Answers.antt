use Rattle.std.proofs.Common.{subst, sym}
use Rattle.update_plan.specs.Sound.{AllReplaceNewest, CanBeMade}
use Rattle.update_stack.specs.AbstractMachine.{bodies_in, contents_of}
use Rattle.update_stack.proofs.ApplyLaws.{plan_carried}
use Rattle.update_stack.proofs.PlaceLaws.{name_is_new}
use Rattle.update_stack.proofs.PlanLaws.{planned_replaces}
use Rattle.update_stack.proofs.system.System.apply_planned.Goals as goal

-- the plan that is held is the one that is seen
pub carry_out-requires-clause-can : goal.carry_out-requires-clause-can
carry_out-requires-clause-can g c =
    let k = c.args.self.now.machine in
    let is = c.requires.planned in
    subst (CanBeMade (contents_of k)) (sym c.planned.view_is)
    (c.updates_can_be_made.ensures.can k c.args.name.now is.pre_file is.post_file c.args.planned
    c.machine-program.ensures.built is.is)

pub carry_out-requires-clause-newest : goal.carry_out-requires-clause-newest
carry_out-requires-clause-newest g c =
    let k = c.args.self.now.machine in
    let is = c.requires.planned in
    subst (AllReplaceNewest (bodies_in k.table)) (sym c.planned.view_is)
    (planned_replaces c.plans_replace_the_newest.ensures k c.args.name.now is.pre_file is.post_file c.args.planned
    c.machine-program.ensures.built is.is)

pub carry_out-requires-clause-new : goal.carry_out-requires-clause-new
carry_out-requires-clause-new g c =
    let is = c.requires.planned in
    name_is_new c.args.self.now.machine c.args.name.now is.pre_file is.post_file c.args.planned is.is

pub returns-clause-answered : goal.returns-clause-answered
returns-clause-answered g c =
    plan_carried c.args.self.now.machine c.carry_out.new.self.machine c.args.name.now c.args.planned
    c.planned.inside.plan c.carry_out.result c.planned.view_is c.requires.clear c.carry_out.ensures.report
    c.carry_out.ensures.committed
