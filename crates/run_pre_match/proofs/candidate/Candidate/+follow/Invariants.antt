-- What is found by the fields so far is kept and marked.
use Rattle.std.proofs.Common.{◌-◌, List, map, take}
use Rattle.run_pre_match.specs.Found.{Found, given_in_constant}
use Rattle.match_constants.specs.Texts.{AreKnown}
use Rattle.run_pre_match.specs.inside.Kept.{Keeps, Follows}
use Rattle.run_pre_match.proofs.Following.{found_after}
use Rattle.run_pre_match.proofs.candidate.Candidate.+follow.Given as goal

abbrev pub decreases-follow : goal.decreases-follow
decreases-follow g l = l.depth

abbrev pub invariant-loop-k : goal.invariant-loop-k
invariant-loop-k g l = record {
  known : AreKnown l.self.object l.self.contents.pieces l.values.texts;
  follows : (before : List Found) → Keeps l.self before l.fn.values
      → Follows l.self before (found_after (l.depth - 1) l.self l.own before l.given
      (map (given_in_constant l.self l.given.value) (take l.k l.refs))) l.fn.marks l.marks l.values;
}
