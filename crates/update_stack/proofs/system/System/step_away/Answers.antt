use Rattle.std.proofs.Common.{sym, subst}
use Rattle.update_stack.specs.AbstractMachine.{AbstractMachine}
use Rattle.update_stack.specs.Phases.{Phased}
use Rattle.update_stack.specs.Systems.{machine_of}
use Rattle.update_stack.specs.inside.Stepping.{ComesOfStep, StandsAway}
use Rattle.update_stack.proofs.HoldsLaws.{Laws}
use Rattle.update_stack.proofs.OpenStepLaws.{OpenLaws}
use Rattle.update_stack.proofs.PhaseLaws.{machine_seen}
use Rattle.update_stack.proofs.PhaseStepLaws.{WriteLaws, away_comes}
use Rattle.update_stack.proofs.system.System.step_away.Goals as goal

pub invariant_of-self : goal.invariant_of-self
invariant_of-self g c =
    let laws : Laws = record {
      past = c.data_are_written_past_jumps.ensures.jumps;
      old = c.data_are_written_past_jumps.ensures.old;
      stays = c.code_stays_code.ensures.stays;
      valid = c.homes_stay_spliced.ensures.valid;
      spliced = c.homes_stay_spliced.ensures.written;
      there = c.code_that_stays.ensures.code;
    } in
    let opens : OpenLaws = record {
      say = c.code_bytes_have_no_say.ensures.changes;
      faults = c.code_bytes_have_no_say.ensures.faults;
      code = c.code_bytes_have_no_say.ensures.written;
      held = c.code_stays_code.ensures.held;
      looks = c.homes_are_not_looked_at.ensures;
      old = c.data_are_written_past_jumps.ensures.old;
      valid = c.homes_stay_spliced.ensures.valid;
      homes = c.homes_stay_spliced.ensures.jumped;
      views = c.jumps_leave_views.ensures;
      steps = c.steps_stand.ensures;
    } in
    let writes : WriteLaws = record {
      clear = c.steps_write_one_number.ensures.clear;
      all = c.steps_write_one_number.ensures.all;
    } in
    let inside = c.self.inside in
    let came = c.step_traced.ensures in
    let Away : Phased → Type 0 = λ seen. StandsAway seen.phase seen.machine.threads c.args.thread in
    (away_comes laws opens.steps opens.views opens.homes inside.phase inside.arena inside.updates inside.kept opens
    writes inside.machine c.step_traced.new.self c.args.thread c.step_traced.result c.self.invariant
    (subst Away (sym c.self.view_is) c.requires.away) came.moved came.store came.fetched came.refused).holds

pub returns-clause-comes : goal.returns-clause-comes
returns-clause-comes g c =
    let laws : Laws = record {
      past = c.data_are_written_past_jumps.ensures.jumps;
      old = c.data_are_written_past_jumps.ensures.old;
      stays = c.code_stays_code.ensures.stays;
      valid = c.homes_stay_spliced.ensures.valid;
      spliced = c.homes_stay_spliced.ensures.written;
      there = c.code_that_stays.ensures.code;
    } in
    let opens : OpenLaws = record {
      say = c.code_bytes_have_no_say.ensures.changes;
      faults = c.code_bytes_have_no_say.ensures.faults;
      code = c.code_bytes_have_no_say.ensures.written;
      held = c.code_stays_code.ensures.held;
      looks = c.homes_are_not_looked_at.ensures;
      old = c.data_are_written_past_jumps.ensures.old;
      valid = c.homes_stay_spliced.ensures.valid;
      homes = c.homes_stay_spliced.ensures.jumped;
      views = c.jumps_leave_views.ensures;
      steps = c.steps_stand.ensures;
    } in
    let writes : WriteLaws = record {
      clear = c.steps_write_one_number.ensures.clear;
      all = c.steps_write_one_number.ensures.all;
    } in
    let inside = c.self.inside in
    let came = c.step_traced.ensures in
    let now = machine_of c.step_traced.new.self inside.arena inside.updates inside.kept in
    let Away : Phased → Type 0 = λ seen. StandsAway seen.phase seen.machine.threads c.args.thread in
    let Comes : AbstractMachine → Type 0 = λ k. ComesOfStep k now c.args.thread c.step_traced.result in
    subst Comes (machine_seen c.self.view_is)
    (away_comes laws opens.steps opens.views opens.homes inside.phase inside.arena inside.updates inside.kept opens
    writes inside.machine c.step_traced.new.self c.args.thread c.step_traced.result c.self.invariant
    (subst Away (sym c.self.view_is) c.requires.away) came.moved came.store came.fetched came.refused).comes
