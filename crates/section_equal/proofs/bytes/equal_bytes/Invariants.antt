use Rattle.std.proofs.Common.{◌≡◌, ◌≤◌, ◌-◌, length, drop}
use Rattle.i386_reloc.specs.Normal.{same_bytes}
use Rattle.section_equal.proofs.bytes.equal_bytes.Given as goal

abbrev pub invariant-loop-passed : goal.invariant-loop-passed
invariant-loop-passed l =
    (l.passed ≤ length l.a) × (same_bytes l.a l.b ≡ same_bytes (drop l.passed l.a) (drop l.passed l.b))

abbrev pub decreases-loop-passed : goal.decreases-loop-passed
decreases-loop-passed l = length l.a - l.passed
