use Rattle.std.proofs.Common.{◌≡◌, ℕ, ◌+◌, ◌-◌, ◌^◌, ◌<◌, ◌≤◌, length, get_or, None}
use Rattle.image_memory.specs.Access.{first_fault}
use Rattle.paged_memory.specs.Pages.{extent_fault, extent_range}
use Rattle.paged_memory.specs.declared.types.Extent.{Extent}
use Rattle.paged_memory.proofs.extents.first_fault.Given as goal

abbrev pub invariant-loop-done : goal.invariant-loop-done
invariant-loop-done l = record {
  bound : l.next ≤ length l.extents;
  small : l.address + l.done < 2 ^ 64;
  before : (k : ℕ) (d : Extent) → k < l.next → (extent_range (get_or l.extents k d)).high ≤ l.address + l.done;
  from : (k : ℕ) (d : Extent) → l.next ≤ k → k < length l.extents → l.address + l.done
      < (extent_range (get_or l.extents k d)).high;
  good : first_fault (extent_fault l.access l.extents) l.address l.done ≡ None;
}

abbrev pub decreases-loop-done : goal.decreases-loop-done
decreases-loop-done l = length l.extents - l.next
