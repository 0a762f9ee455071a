-- What holds of an update at which functions were run: it is an update as any other, and then bytes of data differ.
use Rattle.std.specs.Prelude.{◌≡◌, ℕ, List, None, Ok}
use Rattle.ks_base.specs.declared.reports.HookReport.{HookReport}
use Rattle.update_stack.specs.AbstractMachine.{AbstractMachine}
use Rattle.update_stack.specs.Aside.{DiffersAside}
use Rattle.update_stack.specs.Apply.{applied}
use Rattle.update_stack.specs.Hooks.{hooked}
use Rattle.update_stack.specs.Stacked.{IsBuilt}

-- a machine, with another's scratch piece
abbrev pub with_scratch_of : AbstractMachine → AbstractMachine → AbstractMachine
with_scratch_of other k = record k { scratch = other.scratch }

-- The machine makes the same update without running them, with the same report, and differs then in data alone. So what
-- is known of updates, of the threads, frames and windows beside them, is known of these. Where it had no scratch piece it
-- has none.
pub record IsHooked (k now : AbstractMachine) (name pre_file post_file : List ℕ) (done : HookReport) : Type 0 where
  pub made : AbstractMachine
  pub is_applied : applied k name pre_file post_file ≡ Ok (made, done.report)
  pub differs : DiffersAside (with_scratch_of now made) now
  pub bare : k.scratch ≡ None → now.scratch ≡ None
  pub built : IsBuilt now

abbrev pub HooksAreUpdates : Type 0
HooksAreUpdates =
    (k now : AbstractMachine) (name pre_file post_file : List ℕ) (done : HookReport) → IsBuilt k
    → hooked k name pre_file post_file ≡ Ok (now, done) → IsHooked k now name pre_file post_file done
