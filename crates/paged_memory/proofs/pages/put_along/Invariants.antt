use Rattle.std.proofs.Common.{◌≡◌, ◌≤◌, ◌<◌, ◌-◌, ℕ, length, get_or}
use Rattle.paged_memory.specs.Pages.{overlaid_page}
use Rattle.paged_memory.specs.declared.types.Page.{Page}
use Rattle.paged_memory.proofs.pages.put_along.Given as goal

abbrev pub invariant-loop-i : goal.invariant-loop-i
invariant-loop-i l = record {
  bound : l.i ≤ length l.pages;
  same_length : length l.pages ≡ length l.initial.pages;
  done : (k : ℕ) (d : Page) → k < l.i → get_or l.pages k d ≡ overlaid_page l.start l.from
      (get_or l.initial.pages k d);
  rest : (k : ℕ) (d : Page) → l.i ≤ k → get_or l.pages k d ≡ get_or l.initial.pages k d;
}

abbrev pub decreases-loop-i : goal.decreases-loop-i
decreases-loop-i l = length l.pages - l.i
