use Rattle.std.proofs.Common.{◌≡◌, map, take, drop}
use Rattle.match_candidates.specs.Candidates.{homes_of}
use Rattle.match_candidates.specs.inside.Trying.{missing_among}
use Rattle.match_candidates.proofs.homes.all_homes.Given as goal

-- the homes of the sections so far; none of these has no home
abbrev pub invariant-loop-code : goal.invariant-loop-code
invariant-loop-code g l = record {
  homes : l.homes ≡ map (homes_of l.running) (take l.code-index l.codes);
  none : missing_among l.running l.codes ≡ missing_among l.running (drop l.code-index l.codes);
}
