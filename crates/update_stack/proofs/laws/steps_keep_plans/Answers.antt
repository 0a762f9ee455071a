use Rattle.update_stack.proofs.SamePlanLaws.{WriteLaws, steps_plan}
use Rattle.update_stack.proofs.laws.steps_keep_plans.Goals as goal

pub returns : goal.returns
returns c =
    let laws : WriteLaws = record {
      written = c.data_alone_differ.ensures.written;
      on = c.data_alone_differ.ensures.on;
      valid = c.data_alone_differ.ensures.valid;
    } in
    steps_plan laws c.alike_programs_have_one_plan.ensures
