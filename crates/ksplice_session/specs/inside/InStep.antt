-- What holds of a session's watch beside its machine at every moment.
use Rattle.std.specs.Prelude.{◌≡◌, IsTrue, IsSomeAnd, List, [], None}
use Rattle.std.specs.List.{All}
use Rattle.ia32_step.specs.declared.types.Thread.{Thread}
use Rattle.ia32_step.specs.Threads.{esp_of}
use Rattle.image_threads.specs.Program.{running_at}
use Rattle.update_stack.specs.AbstractMachine.{AbstractMachine}
use Rattle.frame_watch.specs.declared.types.Verdict.{Verdict}
use Rattle.frame_watch.specs.declared.types.Verdict.TheVariants.{Disciplined, Broken}
use Rattle.frame_watch.specs.Frames.{Watched as WatchedThread, Watching, keeps_slots}

-- a thread is the one that is watched
pub record IsSame (watched : WatchedThread) (thread : Thread) : Type 0 where
  pub stack : watched.stack ≡ thread.stack
  pub esp : watched.esp ≡ esp_of thread

-- A thread that is watched runs, with the stack and the ESP that the watch has, and its frames keep the slot rule.
pub record Runs (k : AbstractMachine) (watched : WatchedThread) : Type 0 where
  pub running : IsSomeAnd (running_at k.threads watched.thread) (IsSame watched)
  pub slots : IsTrue (keeps_slots k.pieces watched)

-- once a rule was broken no thread is watched
abbrev pub IsStopped : Verdict → List WatchedThread → Type 0
IsStopped Disciplined threads = Unit {0}
IsStopped (Broken event thread rule) threads = threads ≡ []

-- between two events no function of an update runs, and so there is no scratch piece
pub record IsInStep (k : AbstractMachine) (watch : Watching) : Type 0 where
  pub each : All (Runs k) watch.threads
  pub stopped : IsStopped watch.verdict watch.threads
  pub bare : k.scratch ≡ None
