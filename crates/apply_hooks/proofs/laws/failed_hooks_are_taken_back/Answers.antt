use Rattle.update_stack.specs.laws.DataLaws.{DataLaws}
use Rattle.apply_hooks.proofs.RestoredLaws.{restored}
use Rattle.apply_hooks.proofs.laws.failed_hooks_are_taken_back.Goals as goal

pub returns : goal.returns
returns c =
    let laws : DataLaws = record {
      written = c.data_alone_differ.ensures.written;
      put = c.data_alone_differ.ensures.put_back;
      on = c.data_alone_differ.ensures.on;
      valid = c.data_alone_differ.ensures.valid;
      left = c.data_alone_differ.ensures.left;
      fit = c.saved_data_come_back.ensures.fit;
      same = c.saved_data_come_back.ensures.same;
    } in
    restored laws
