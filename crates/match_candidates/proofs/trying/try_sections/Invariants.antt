use Rattle.std.proofs.Common.{◌≡◌, ◌++◌, drop}
use Rattle.match_candidates.specs.inside.Trying.{tried_from, mismatch_among}
use Rattle.match_candidates.proofs.trying.try_sections.Given as goal

-- the sections so far are tried, and none of them differs from all that it may be
abbrev pub invariant-loop-number : goal.invariant-loop-number
invariant-loop-number g l = record {
  tried : tried_from l.running 0 l.codes ≡ l.tried.items ++ tried_from l.running l.number (drop l.number l.codes);
  none : mismatch_among l.running l.codes ≡ mismatch_among l.running (drop l.number l.codes);
}
