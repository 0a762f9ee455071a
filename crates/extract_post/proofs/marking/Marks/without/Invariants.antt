use Rattle.std.proofs.Common.{◌≡◌, ℕ, ◌<◌, ◌≤◌, false, not, ◌&&◌, get_or, length}
use Rattle.extract_post.proofs.marking.Marks.without.Given as goal

abbrev pub invariant-loop-place : goal.invariant-loop-place
invariant-loop-place l =
    record {
      len : length l.self-inside.marks.items ≡ length l.fn.self;
      below : (k : ℕ) → k < l.place →
          get_or l.self-inside.marks.items k false ≡ (get_or l.fn.self k false && not (get_or l.other k false));
      above : (k : ℕ) → l.place ≤ k → get_or l.self-inside.marks.items k false ≡ get_or l.fn.self k false;
    }
