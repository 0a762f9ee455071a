use Rattle.update_safety.proofs.SlotLaws.{updates_keep_slots, undos_keep_slots}
use Rattle.update_safety.proofs.SlotLaws.{updates_keep_threads, undos_keep_threads}
use Rattle.update_safety.proofs.laws.updates_keep_slots.Goals as goal

pub returns-clause-updates : goal.returns-clause-updates
returns-clause-updates c = updates_keep_slots

pub returns-clause-undos : goal.returns-clause-undos
returns-clause-undos c = undos_keep_slots

pub returns-clause-updated_threads : goal.returns-clause-updated_threads
returns-clause-updated_threads c = updates_keep_threads

pub returns-clause-undone_threads : goal.returns-clause-undone_threads
returns-clause-undone_threads c = undos_keep_threads
