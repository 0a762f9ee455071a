use Rattle.update_safety.proofs.WindowLaws.{UpdateLaws, updates_keep_windows, undos_keep_windows}
use Rattle.update_safety.proofs.laws.updates_keep_windows.Goals as goal

pub returns-clause-updates : goal.returns-clause-updates
returns-clause-updates c =
    let laws : UpdateLaws = record {
      can = c.updates_can_be_made.ensures.can;
      code = c.updates_can_be_made.ensures.code;
    } in
    updates_keep_windows laws

pub returns-clause-undos : goal.returns-clause-undos
returns-clause-undos c = undos_keep_windows c.uncovered_updates_can_go.ensures.goes
