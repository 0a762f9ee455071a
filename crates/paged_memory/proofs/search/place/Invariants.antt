use Rattle.std.proofs.Common.{ℕ, ◌+◌, ◌-◌, ◌*◌, ◌≤◌, ◌<◌, ◌^◌, length, get_or}
use Rattle.paged_memory.specs.declared.types.Page.{Page}
use Rattle.paged_memory.proofs.search.place.Given as goal

abbrev pub invariant-loop-low : goal.invariant-loop-low
invariant-loop-low g l = record {
  order : l.low ≤ l.high;
  bound : l.high ≤ length l.pages;
  before : (k : ℕ) (d : Page) → k < l.low → (get_or l.pages k d).number < l.number;
  above : (k : ℕ) (d : Page) → l.high ≤ k → k < length l.pages → l.number < (get_or l.pages k d).number;
  rise : l.initial.steps ≤ l.steps;
  cost : 2 ^ (l.steps - l.initial.steps) * (l.high - l.low) ≤ length l.pages;
  small : 2 ^ (l.steps - l.initial.steps) ≤ 2 * length l.pages + 1;
}

abbrev pub decreases-loop-low : goal.decreases-loop-low
decreases-loop-low g l = l.high - l.low
