use Rattle.update_stack.specs.laws.DataLaws.{DataLaws}
use Rattle.update_safety.proofs.HookedLaws.{hooked_is_clear, hooks_keep_threads, hooks_keep_windows}
use Rattle.update_safety.proofs.laws.hooks_keep_threads_safe.Goals as goal

pub returns-clause-clear : goal.returns-clause-clear
returns-clause-clear c = hooked_is_clear c.hooks_are_updates.ensures c.accepted_updates_are_clear.ensures

pub returns-clause-windows : goal.returns-clause-windows
returns-clause-windows c =
    let alone : DataLaws = record {
      written = c.data_alone_differ.ensures.written;
      put = c.data_alone_differ.ensures.put_back;
      on = c.data_alone_differ.ensures.on;
      valid = c.data_alone_differ.ensures.valid;
      left = c.data_alone_differ.ensures.left;
      fit = c.saved_data_come_back.ensures.fit;
      same = c.saved_data_come_back.ensures.same;
    } in
    hooks_keep_windows c.hooks_are_updates.ensures alone c.updates_keep_windows.ensures.updates

pub returns-clause-threads : goal.returns-clause-threads
returns-clause-threads c =
    hooks_keep_threads c.hooks_are_updates.ensures c.updates_keep_slots.ensures.updated_threads
