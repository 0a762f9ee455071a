-- Files that a session can load.
use Rattle.std.specs.Prelude.{ℕ, ◌≤◌, List, length, Option, IsSomeAnd}
use Rattle.ks_io.specs.Loads.{Needed}

-- a file is given, and is no longer than it may be
abbrev pub IsWithin : (List ℕ → Option (List ℕ)) → Needed → Type 0
IsWithin files file = IsSomeAnd (files file.name) (λ bytes. length bytes ≤ file.limit)
