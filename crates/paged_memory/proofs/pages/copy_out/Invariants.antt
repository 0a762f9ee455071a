use Rattle.std.proofs.Common.{◌≡◌, ◌≤◌, ◌<◌, ◌-◌, ◌+◌, ◌/◌, ℕ, length, get_or}
use Rattle.paged_memory.specs.Pages.{stored, IsHome}
use Rattle.paged_memory.proofs.pages.copy_out.Given as goal

abbrev pub invariant-loop-done : goal.invariant-loop-done
invariant-loop-done l = record {
  bound : l.done ≤ length l.into;
  same_length : length l.into ≡ length l.initial.into;
  copied : (k : ℕ) → k < l.done → get_or l.into k 0 ≡ stored l.pages (l.address + k);
  home : l.done < length l.into → IsHome l.pages ((l.address + l.done) / 4096) l.at;
}

abbrev pub decreases-loop-done : goal.decreases-loop-done
decreases-loop-done l = length l.into - l.done
