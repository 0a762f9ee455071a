use Rattle.std.proofs.Common.{◌∙◌, ap}
use Rattle.image_memory.specs.Contents.{Contents}
use Rattle.ia32_step.specs.Step.{stepped}
use Rattle.update_stack.specs.AbstractMachine.{AbstractMachine}
use Rattle.update_stack.specs.Scratch.{after_aside}
use Rattle.update_stack.specs.Steps.{step_in}
use Rattle.update_stack.proofs.AsideLaws.{steps_aside}
use Rattle.update_stack.proofs.HoldsLaws.{Laws}
use Rattle.update_stack.proofs.PhaseLaws.{done_again, done_holds, machine_seen}
use Rattle.update_stack.proofs.system.System.step_scratch.Goals as goal

pub invariant_of-self : goal.invariant_of-self
invariant_of-self g c =
    let laws : Laws = record {
      past = c.data_are_written_past_jumps.ensures.jumps;
      old = c.data_are_written_past_jumps.ensures.old;
      stays = c.code_stays_code.ensures.stays;
      valid = c.homes_stay_spliced.ensures.valid;
      spliced = c.homes_stay_spliced.ensures.written;
      there = c.code_that_stays.ensures.code;
    } in
    let inside = c.self.inside in
    let holds = done_holds inside.machine inside.arena inside.updates inside.kept c.self.view_is c.requires.done
    c.self.invariant in
    let is = c.step_thread.ensures.left
    ∙ ap (λ (contents : Contents). stepped contents c.args.thread.now) c.space_mut.ensures.contents in
    let aside = steps_aside laws c.steps_stand.ensures inside.arena inside.updates inside.kept inside.machine
    c.args.thread.now holds (g.S.Space.contents c.step_thread.new.space) (g.S.Space.room c.step_thread.new.space)
    c.step_thread.new.thread c.step_thread.result is (c.step_thread.ensures.room ∙ c.space_mut.ensures.room) in
    done_again _ inside.arena inside.updates inside.kept c.self.view_is c.requires.done aside.holds_now

pub returns-clause-machine : goal.returns-clause-machine
returns-clause-machine g c =
    let laws : Laws = record {
      past = c.data_are_written_past_jumps.ensures.jumps;
      old = c.data_are_written_past_jumps.ensures.old;
      stays = c.code_stays_code.ensures.stays;
      valid = c.homes_stay_spliced.ensures.valid;
      spliced = c.homes_stay_spliced.ensures.written;
      there = c.code_that_stays.ensures.code;
    } in
    let inside = c.self.inside in
    let holds = done_holds inside.machine inside.arena inside.updates inside.kept c.self.view_is c.requires.done
    c.self.invariant in
    let is = c.step_thread.ensures.left
    ∙ ap (λ (contents : Contents). stepped contents c.args.thread.now) c.space_mut.ensures.contents in
    let aside = steps_aside laws c.steps_stand.ensures inside.arena inside.updates inside.kept inside.machine
    c.args.thread.now holds (g.S.Space.contents c.step_thread.new.space) (g.S.Space.room c.step_thread.new.space)
    c.step_thread.new.thread c.step_thread.result is (c.step_thread.ensures.room ∙ c.space_mut.ensures.room) in
    aside.machine_is
    ∙ ap (λ (k : AbstractMachine). after_aside k (step_in k c.args.thread.now)) (machine_seen c.self.view_is)

pub returns-clause-thread : goal.returns-clause-thread
returns-clause-thread g c =
    let laws : Laws = record {
      past = c.data_are_written_past_jumps.ensures.jumps;
      old = c.data_are_written_past_jumps.ensures.old;
      stays = c.code_stays_code.ensures.stays;
      valid = c.homes_stay_spliced.ensures.valid;
      spliced = c.homes_stay_spliced.ensures.written;
      there = c.code_that_stays.ensures.code;
    } in
    let inside = c.self.inside in
    let holds = done_holds inside.machine inside.arena inside.updates inside.kept c.self.view_is c.requires.done
    c.self.invariant in
    let is = c.step_thread.ensures.left
    ∙ ap (λ (contents : Contents). stepped contents c.args.thread.now) c.space_mut.ensures.contents in
    let aside = steps_aside laws c.steps_stand.ensures inside.arena inside.updates inside.kept inside.machine
    c.args.thread.now holds (g.S.Space.contents c.step_thread.new.space) (g.S.Space.room c.step_thread.new.space)
    c.step_thread.new.thread c.step_thread.result is (c.step_thread.ensures.room ∙ c.space_mut.ensures.room) in
    aside.thread_is ∙ ap (λ (k : AbstractMachine). (step_in k c.args.thread.now).thread) (machine_seen c.self.view_is)

pub returns-clause-outcome : goal.returns-clause-outcome
returns-clause-outcome g c =
    let laws : Laws = record {
      past = c.data_are_written_past_jumps.ensures.jumps;
      old = c.data_are_written_past_jumps.ensures.old;
      stays = c.code_stays_code.ensures.stays;
      valid = c.homes_stay_spliced.ensures.valid;
      spliced = c.homes_stay_spliced.ensures.written;
      there = c.code_that_stays.ensures.code;
    } in
    let inside = c.self.inside in
    let holds = done_holds inside.machine inside.arena inside.updates inside.kept c.self.view_is c.requires.done
    c.self.invariant in
    let is = c.step_thread.ensures.left
    ∙ ap (λ (contents : Contents). stepped contents c.args.thread.now) c.space_mut.ensures.contents in
    let aside = steps_aside laws c.steps_stand.ensures inside.arena inside.updates inside.kept inside.machine
    c.args.thread.now holds (g.S.Space.contents c.step_thread.new.space) (g.S.Space.room c.step_thread.new.space)
    c.step_thread.new.thread c.step_thread.result is (c.step_thread.ensures.room ∙ c.space_mut.ensures.room) in
    aside.outcome_is ∙ ap (λ (k : AbstractMachine). (step_in k c.args.thread.now).outcome) (machine_seen c.self.view_is)
