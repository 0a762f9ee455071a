-- What is asked of a thread: whether it runs, and where its ESP points.
use Rattle.std.specs.Prelude.{ℕ, Bool, true, false, slice_index}
use Rattle.ia32_step.specs.declared.types.State.{State}
use Rattle.ia32_step.specs.declared.types.State.TheVariants.{Running, Exited, Stopped}
use Rattle.ia32_step.specs.declared.types.Thread.{Thread}

abbrev pub is_running : State → Bool
is_running Running = true
is_running (Exited value) = false
is_running (Stopped fault) = false

abbrev pub runs : Thread → Bool
runs thread = is_running thread.state

abbrev pub esp_of : Thread → ℕ
esp_of thread = slice_index thread.registers 4
