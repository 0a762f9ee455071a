use Rattle.std.proofs.Common.{◌≡◌, ℕ, ◌+◌, ◌*◌, ◌^◌, ◌<◌, ◌≤◌, length, get_or}
use Rattle.std.specs.List.{AllWithin}
use Rattle.stack_scan.specs.inside.Cuts.{Ends}
use Rattle.stack_scan.proofs.slots.Slots.new.Given as goal

abbrev pub invariant-loop-slot : goal.invariant-loop-slot
invariant-loop-slot l = (length l.ended ≡ 4097)
    × ((s : ℕ) → s < l.slot → Ends l.ranges (l.low + s * 2 ^ l.shift) (get_or l.ended s 0))
    × (l.count ≤ length l.ranges) × AllWithin (λ range. range.high ≤ l.low + l.slot * 2 ^ l.shift) l.ranges 0 l.count
