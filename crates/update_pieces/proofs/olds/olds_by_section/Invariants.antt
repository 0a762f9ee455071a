use Rattle.std.proofs.Common.{◌≡◌, ℕ, List, drop}
use Rattle.std.specs.Option.{option_or}
use Rattle.update_pieces.specs.Reports.{old_named}
use Rattle.update_pieces.specs.inside.OldMaps.{old_at}
use Rattle.update_pieces.proofs.olds.olds_by_section.Given as goal

-- the functions so far, and then the others
abbrev pub invariant-loop-old : goal.invariant-loop-old
invariant-loop-old l =
    (q : List ℕ) → option_or (old_at l.by_section q) (old_named (drop l.old-index l.olds) q) ≡ old_named l.olds q
