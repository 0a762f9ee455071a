use Rattle.std.proofs.Common.{◌≡◌, ◌≤◌, ◌<◌, ◌-◌, ℕ, length, get_or}
use Rattle.paged_memory.specs.Pages.{uncounting}
use Rattle.paged_memory.specs.declared.types.Page.{Page}
use Rattle.paged_memory.proofs.closing.uncount_extent.Given as goal

abbrev pub invariant-loop-i : goal.invariant-loop-i
invariant-loop-i l = record {
  bound : l.i ≤ length l.pages;
  same_length : length l.pages ≡ length l.initial.pages;
  done : (k : ℕ) (d : Page) → k < l.i → get_or l.pages k d ≡ uncounting l.extent (get_or l.initial.pages k d);
  rest : (k : ℕ) (d : Page) → l.i ≤ k → get_or l.pages k d ≡ get_or l.initial.pages k d;
}

abbrev pub decreases-loop-i : goal.decreases-loop-i
decreases-loop-i l = length l.pages - l.i
