use Rattle.update_stack.specs.laws.DataLaws.{DataLaws}
use Rattle.update_stack.proofs.HooksLaws.{hooks_update}
use Rattle.update_stack.proofs.hooked.hooks_are_updates.Goals as goal

pub returns : goal.returns
returns c =
    let alone : DataLaws = record {
      written = c.data_alone_differ.ensures.written;
      put = c.data_alone_differ.ensures.put_back;
      on = c.data_alone_differ.ensures.on;
      valid = c.data_alone_differ.ensures.valid;
      left = c.data_alone_differ.ensures.left;
      fit = c.saved_data_come_back.ensures.fit;
      same = c.saved_data_come_back.ensures.same;
    } in
    hooks_update (record {
      data_alone = alone;
      comes = c.scratch_comes_and_goes.ensures;
      lies = c.accepted_updates_lie_on_top.ensures.accepted;
      memory = c.memory_stays_memory.ensures;
      bytes = c.code_that_stays.ensures.bytes;
    })
