use Rattle.std.proofs.Common.{◌≡◌, ◌≤◌, ◌<◌, ◌-◌, ◌+◌, ℕ, length, get_or}
use Rattle.image_memory.specs.Access.{byte_at}
use Rattle.image_memory.proofs.flat.FlatSpace.copy_out.Given as goal

abbrev pub invariant-loop-done : goal.invariant-loop-done
invariant-loop-done l = record {
  bound : l.done ≤ length l.into;
  same_length : length l.into ≡ length l.initial.into;
  copied : (k : ℕ) → k < l.done → get_or l.into k 0 ≡ byte_at l.self.pieces.items (l.address + k);
}

abbrev pub decreases-loop-done : goal.decreases-loop-done
decreases-loop-done l = length l.into - l.done
