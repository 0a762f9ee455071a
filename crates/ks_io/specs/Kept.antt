-- What stays of files and of a sink over a call that uses them, said over what their traits let contracts see.
use Rattle.std.specs.Prelude.{◌≡◌, ℕ, ◌≤◌, List, Option}
use Rattle.ks_io.specs.Outside.{Counts, NeverFall}

-- The given files stay the same, and no count falls. Where no call fails, none does later, and no fault is counted.
pub record FilesKept {X : Type 0} (told : X → Option (List ℕ → Option (List ℕ)))
    (counts : X → Counts) (quiet : X → Type 0) (old new : X) : Type 0 where
  pub told_kept : told new ≡ told old
  pub never_fall : NeverFall (counts old) (counts new)
  pub quiet_kept : quiet old → quiet new
  pub quiet_faults : quiet old → (counts new).faults ≡ (counts old).faults

-- The count of faults never falls. Where no call fails, none does later, and no fault is counted.
pub record SinkKept {X : Type 0} (faults : X → ℕ) (quiet : X → Type 0) (old new : X) : Type 0 where
  pub never_falls : faults old ≤ faults new
  pub quiet_kept : quiet old → quiet new
  pub quiet_faults : quiet old → faults new ≡ faults old
