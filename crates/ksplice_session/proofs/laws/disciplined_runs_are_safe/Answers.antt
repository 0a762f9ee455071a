use Rattle.ksplice_session.proofs.MomentLaws.{Premises}
use Rattle.ksplice_session.proofs.OpenFrames.{open_frames_keep}
use Rattle.ksplice_session.proofs.SafetyLaws.{no_return_is_lost}
use Rattle.ksplice_session.proofs.laws.disciplined_runs_are_safe.Goals.{After-instructions_are_never_stray}
use Rattle.ksplice_session.proofs.laws.disciplined_runs_are_safe.Goals as goal

premises : After-instructions_are_never_stray → Premises
premises c = record {
  starts = c.threads_keep_windows.ensures.starts;
  steps = c.threads_keep_windows.ensures.steps;
  updates = c.updates_keep_windows.ensures.updates;
  undos = c.updates_keep_windows.ensures.undos;
  accepted = c.accepted_updates_are_clear.ensures;
  taken_back = c.undone_updates_are_clear.ensures;
  built = c.machines_are_built.ensures;
  faults = c.instructions_are_never_stray.ensures;
  update_slots = c.updates_keep_slots.ensures.updates;
  undo_slots = c.updates_keep_slots.ensures.undos;
  hooks = c.hooks_keep_threads_safe.ensures.windows;
  hooked = c.hooks_keep_threads_safe.ensures.clear;
  hook_threads = c.hooks_keep_threads_safe.ensures.threads;
}

pub returns-clause-frames : goal.returns-clause-frames
returns-clause-frames c =
    open_frames_keep (premises (goal.at.returns-clause-frames c).After-instructions_are_never_stray)

pub returns-clause-returns : goal.returns-clause-returns
returns-clause-returns c =
    no_return_is_lost (premises (goal.at.returns-clause-returns c).After-instructions_are_never_stray)
