use Rattle.update_stack.proofs.OpenStepLaws.{OpenLaws, stands_in}
use Rattle.update_stack.proofs.laws.steps_stand_in.Goals as goal

pub returns : goal.returns
returns c =
    let laws : OpenLaws = record {
      say = c.code_bytes_have_no_say.ensures.changes;
      faults = c.code_bytes_have_no_say.ensures.faults;
      code = c.code_bytes_have_no_say.ensures.written;
      held = c.code_stays_code.ensures.held;
      looks = c.homes_are_not_looked_at.ensures;
      old = c.data_are_written_past_jumps.ensures.old;
      valid = c.homes_stay_spliced.ensures.valid;
      homes = c.homes_stay_spliced.ensures.jumped;
      views = c.jumps_leave_views.ensures;
      steps = c.steps_stand.ensures;
    } in
    stands_in laws
