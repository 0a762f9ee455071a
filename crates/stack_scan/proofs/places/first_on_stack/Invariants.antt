use Rattle.std.proofs.Common.{◌≡◌, ◌≤◌, ◌+◌, ◌-◌, ◌*◌, map}
use Rattle.stack_scan.specs.Standing.{first_place, on_stack, addresses}
use Rattle.stack_scan.proofs.places.first_on_stack.Given as goal

-- the rest decides
abbrev pub invariant-loop-passed : goal.invariant-loop-passed
invariant-loop-passed g l = (l.passed ≤ l.count)
    × (first_place l.targets
    (map (on_stack (g.S.Space.contents l.space).pieces) (addresses (l.start + 4 * l.passed) (l.count - l.passed)))
    ≡ first_place l.targets (map (on_stack (g.S.Space.contents l.space).pieces) (addresses l.start l.count)))

abbrev pub decreases-loop-passed : goal.decreases-loop-passed
decreases-loop-passed g l = l.count - l.passed
