use Rattle.std.proofs.Common.{Ok, sym, subst}
use Rattle.update_stack.specs.AbstractMachine.{AbstractMachine}
use Rattle.update_stack.specs.Phases.{Phased}
use Rattle.update_stack.specs.Systems.{machine_of}
use Rattle.update_stack.specs.inside.Stepping.{ComesOfStep, StandsOpen}
use Rattle.update_stack.proofs.HoldsLaws.{Laws}
use Rattle.update_stack.proofs.OpenStepLaws.{JumpLaws}
use Rattle.update_stack.proofs.PhaseLaws.{machine_seen}
use Rattle.update_stack.proofs.PhaseStepLaws.{is_sent, on_comes, traced_on}
use Rattle.update_stack.proofs.system.System.step_on.Goals as goal

pub returns-in_err-outcome-clause-comes : goal.returns-in_err-outcome-clause-comes
returns-in_err-outcome-clause-comes g c =
    let inside = c.self.inside in
    let Open : Phased → Type 0 = λ seen. StandsOpen seen.phase seen.machine c.args.thread c.args.base in
    absurd (is_sent inside.phase inside.machine inside.arena inside.updates inside.kept c.self.invariant c.args.thread
    c.args.base c.in_err-outcome.field-0.0 (subst Open (sym c.self.view_is) c.requires.open)
    c.in_err-outcome.ensures.sent)

pub invariant_of-self-2 : goal.invariant_of-self-2
invariant_of-self-2 g c =
    let laws : Laws = record {
      past = c.data_are_written_past_jumps.ensures.jumps;
      old = c.data_are_written_past_jumps.ensures.old;
      stays = c.code_stays_code.ensures.stays;
      valid = c.homes_stay_spliced.ensures.valid;
      spliced = c.homes_stay_spliced.ensures.written;
      there = c.code_that_stays.ensures.code;
    } in
    let jumps : JumpLaws = record {
      decodes = c.jumps_decode.ensures.number;
      stand = c.jumps_stand.ensures;
      homes = c.homes_stay_spliced.ensures.jumped;
      views = c.jumps_leave_views.ensures;
      steps = c.steps_stand.ensures;
    } in
    let inside = c.self.inside in
    let Open : Phased → Type 0 = λ seen. StandsOpen seen.phase seen.machine c.args.thread c.args.base in
    (on_comes laws jumps.steps jumps.views jumps.homes inside.phase inside.arena inside.updates inside.kept jumps
    inside.machine c.jump_thread.new.self c.args.thread c.args.base c.in_ok-outcome.outcome c.self.invariant
    (subst Open (sym c.self.view_is) c.requires.open) c.in_ok-outcome.ensures.sent).holds

pub returns-clause-comes : goal.returns-clause-comes
returns-clause-comes g c =
    let laws : Laws = record {
      past = c.data_are_written_past_jumps.ensures.jumps;
      old = c.data_are_written_past_jumps.ensures.old;
      stays = c.code_stays_code.ensures.stays;
      valid = c.homes_stay_spliced.ensures.valid;
      spliced = c.homes_stay_spliced.ensures.written;
      there = c.code_that_stays.ensures.code;
    } in
    let jumps : JumpLaws = record {
      decodes = c.jumps_decode.ensures.number;
      stand = c.jumps_stand.ensures;
      homes = c.homes_stay_spliced.ensures.jumped;
      views = c.jumps_leave_views.ensures;
      steps = c.steps_stand.ensures;
    } in
    let inside = c.self.inside in
    let now = machine_of c.jump_thread.new.self inside.arena inside.updates inside.kept in
    let Open : Phased → Type 0 = λ seen. StandsOpen seen.phase seen.machine c.args.thread c.args.base in
    let Comes : AbstractMachine → Type 0 =
    λ k. ComesOfStep k now c.args.thread (Ok (traced_on c.in_ok-outcome.outcome)) in
    subst Comes (machine_seen c.self.view_is)
    (on_comes laws jumps.steps jumps.views jumps.homes inside.phase inside.arena inside.updates inside.kept jumps
    inside.machine c.jump_thread.new.self c.args.thread c.args.base c.in_ok-outcome.outcome c.self.invariant
    (subst Open (sym c.self.view_is) c.requires.open) c.in_ok-outcome.ensures.sent).comes
