-- The plan fits into the program, and what was made beforehand is what its update keeps.
use Rattle.std.proofs.Common.{◌≡◌, false, List, [], ◌∷◌, ◌++◌, sym, ◌∙◌, ap, subst}
use Rattle.std.specs.List.{list_any, All}
use Rattle.image_memory.specs.declared.types.Fence.{Fence}
use Rattle.image_memory.specs.Contents.{Contents}
use Rattle.update_memory.specs.declared.types.Jump.{Jump}
use Rattle.update_memory.specs.Added.{AreAddable, with_pieces}
use Rattle.update_memory.specs.Retired.{AreRetirable, with_fences}
use Rattle.update_plan.specs.declared.types.Plan.{Plan}
use Rattle.update_plan.specs.Sound.{AllReplaceNewest, CanBeMade}
use Rattle.update_stack.specs.AbstractMachine.{AbstractMachine, bodies_in, contents_of}
use Rattle.update_stack.specs.Systems.{machine_of, Holds}
use Rattle.update_stack.specs.declared.updates.Update.{Update as Shown}
use Rattle.update_stack.specs.StandsFor.{Seen}
use Rattle.update_stack.specs.Apply.{has_name, committed}
use Rattle.update_stack.specs.inside.Carrying.{shown_as, FitsIn, HasHomeCode, IsCarriedOut}
use Rattle.update_stack.specs.inside.Carrying.{HoldsAfter, IsPrepared}
use Rattle.update_stack.proofs.CarryLaws.{seen_carried}
use Rattle.update_stack.proofs.PhaseLaws.{done_again, done_holds, machine_seen}
use Rattle.update_stack.proofs.system.System.carry_out.Given.{Over}
use Rattle.update_stack.proofs.system.System.carry_out.Goals.{After-as_slice-2, After-change}
use Rattle.update_stack.proofs.system.System.carry_out.Goals as goal

pub prepare-requires-clause-ends : goal.prepare-requires-clause-ends
prepare-requires-clause-ends g c =
    let inside = c.self.inside in
    let holds = done_holds inside.machine inside.arena inside.updates inside.kept c.self.view_is c.requires.done
    c.self.invariant in
    let can = subst (λ (m : AbstractMachine). CanBeMade (contents_of m) c.args.plan) (sym (machine_seen c.self.view_is))
    c.requires.can in
    c.plans_are_carried_out.ensures.ends inside.machine inside.arena inside.updates inside.kept c.args.plan
    holds can

-- the plan and the jumps fit into the memory
fits : (g : Over) (c : After-as_slice-2 g)
    → FitsIn c.self.inside.machine.contents c.args.plan c.in_ok-made.made.jumps
fits g c =
    let inside = c.self.inside in
    let holds = done_holds inside.machine inside.arena inside.updates inside.kept c.self.view_is c.requires.done
    c.self.invariant in
    let can = subst (λ (m : AbstractMachine). CanBeMade (contents_of m) c.args.plan) (sym (machine_seen c.self.view_is))
    c.requires.can in
    c.plans_are_carried_out.ensures.fits inside.machine inside.arena inside.updates inside.kept c.args.plan
    c.in_ok-made.made.jumps holds can c.in_ok-made.ensures.prepared.rows

pub change-requires-clause-addable : goal.change-requires-clause-addable
change-requires-clause-addable g c =
    subst (λ (left : Plan). AreAddable c.prepare.new.machine.contents left.pieces) (sym c.prepare.ensures.rest)
    (subst (λ (m : Contents). AreAddable m c.args.plan.pieces)
    (sym (ap (λ (s : Seen). s.contents) c.prepare.ensures.seen)) (fits g c).addable)

pub change-requires-clause-retirable : goal.change-requires-clause-retirable
change-requires-clause-retirable g c =
    let plan = c.args.plan in
    let fences = c.as_slice.result.now in
    subst (λ (left : Plan). AreRetirable (with_pieces c.prepare.new.machine.contents left.pieces) fences)
    (sym c.prepare.ensures.rest)
    (subst (λ (m : Contents). AreRetirable (with_pieces m plan.pieces) fences)
    (sym (ap (λ (s : Seen). s.contents) c.prepare.ensures.seen))
    (subst (AreRetirable (with_pieces c.self.inside.machine.contents plan.pieces))
    (sym (c.as_slice.ensures ∙ ap (λ (left : Plan). left.fences) c.prepare.ensures.rest)) (fits g c).retirable))

pub change-requires-clause-code : goal.change-requires-clause-code
change-requires-clause-code g c =
    let plan = c.args.plan in
    let before = with_pieces c.self.inside.machine.contents plan.pieces in
    let fences = c.as_slice.result.now in
    let jumps = c.as_slice-2.result.now in
    subst (λ (left : Plan). All (HasHomeCode
    (with_fences (with_pieces c.prepare.new.machine.contents left.pieces) fences).pieces) jumps)
    (sym c.prepare.ensures.rest)
    (subst (λ (m : Contents). All (HasHomeCode (with_fences (with_pieces m plan.pieces) fences).pieces) jumps)
    (sym (ap (λ (s : Seen). s.contents) c.prepare.ensures.seen))
    (subst (λ (fs : List Fence). All (HasHomeCode (with_fences before fs).pieces) jumps)
    (sym (c.as_slice.ensures ∙ ap (λ (left : Plan). left.fences) c.prepare.ensures.rest))
    (subst (λ (js : List Jump). All (HasHomeCode (with_fences before plan.fences).pieces) js)
    (sym c.as_slice-2.ensures) (fits g c).code)))

-- what holds once the program was changed
after : (g : Over) (c : After-change g)
    → HoldsAfter c.self.inside.machine c.change.new.machine c.self.inside.arena c.self.inside.updates c.self.inside.kept
    c.args.name.now c.args.plan c.in_ok-made.made.kept
after g c =
    let inside = c.self.inside in
    let holds = done_holds inside.machine inside.arena inside.updates inside.kept c.self.view_is c.requires.done
    c.self.invariant in
    let plan = c.args.plan in
    let made = c.in_ok-made.made in
    let can = subst (λ (m : AbstractMachine). CanBeMade (contents_of m) plan) (sym (machine_seen c.self.view_is))
    c.requires.can in
    let is : IsPrepared inside.machine.contents c.args.name.now plan made = c.in_ok-made.ensures.prepared in
    let carried : IsCarriedOut inside.machine c.change.new.machine plan made.jumps = record {
      seen_after =
          seen_carried inside.machine c.prepare.new.machine c.change.new.machine plan c.prepare.new.plan
          c.as_slice.result.now made.jumps c.as_slice-2.result.now c.prepare.ensures.seen c.prepare.ensures.rest
          c.as_slice.ensures c.as_slice-2.ensures c.change.ensures;
      rows = is.rows;
      olds = is.olds;
    } in
    c.plans_are_carried_out.ensures.holds inside.machine c.change.new.machine inside.arena inside.updates
    inside.kept c.args.name.now plan made.jumps made.kept holds can
    (subst (λ (m : AbstractMachine). AllReplaceNewest (bodies_in m.table) plan) (sym (machine_seen c.self.view_is))
    c.requires.newest)
    (subst (λ (m : AbstractMachine). list_any (has_name c.args.name.now) m.updates ≡ false) (sym (machine_seen
    c.self.view_is))
    c.requires.new) carried is.kept_of_plan

-- the update stands behind those before it
listed : (g : Over) (c : After-change g)
    → c.push_both.new.updates ≡ c.self.inside.updates ++ shown_as c.args.name.now c.args.plan.report ∷ []
listed g c =
    c.in_ok-push_both.ensures.updates
    ∙ ap (λ (u : Shown). c.self.inside.updates ++ u ∷ []) c.in_ok-made.ensures.prepared.shown

pub invariant_of-self-2 : goal.invariant_of-self-2
invariant_of-self-2 g c =
    let here = (goal.at.invariant_of-self-2 g c).After-change in
    let inside = c.self.inside in
    let shown = shown_as c.args.name.now c.args.plan.report in
    done_again c.change.new.machine inside.arena c.push_both.new.updates c.push_both.new.kept c.self.view_is
    c.requires.done
    (subst (λ (us : List Shown). Holds c.change.new.machine inside.arena us c.push_both.new.kept) (sym (listed g here))
    (subst (Holds c.change.new.machine inside.arena (inside.updates ++ shown ∷ [])) (sym c.in_ok-push_both.ensures.kept)
    (after g here).holds))

pub returns-clause-committed : goal.returns-clause-committed
returns-clause-committed g c =
    let here = (goal.at.returns-clause-committed g c).After-change in
    let inside = c.self.inside in
    let shown = shown_as c.args.name.now c.args.plan.report in
    ap (λ (us : List Shown). machine_of c.change.new.machine inside.arena us c.push_both.new.kept) (listed g here)
    ∙ ap (machine_of c.change.new.machine inside.arena (inside.updates ++ shown ∷ [])) c.in_ok-push_both.ensures.kept
    ∙ (after g here).same
    ∙ ap (λ (m : AbstractMachine). committed m c.args.name.now c.args.plan) (machine_seen c.self.view_is)
