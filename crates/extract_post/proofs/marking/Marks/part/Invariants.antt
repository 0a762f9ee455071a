use Rattle.std.proofs.Common.{◌≡◌, ℕ, ◌+◌, ◌<◌, false, get_or, vec_len}
use Rattle.extract_post.proofs.marking.Marks.part.Given as goal

abbrev pub invariant-loop-place : goal.invariant-loop-place
invariant-loop-place l =
    record {
      len : vec_len l.marks ≡ l.place;
      below : (k : ℕ) → k < l.place → get_or l.marks.items k false ≡ get_or l.self (l.from + k) false;
    }
