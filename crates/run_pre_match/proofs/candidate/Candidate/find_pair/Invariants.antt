-- What is found by the fields so far is kept and marked.
use Rattle.std.proofs.Common.{true, List, map, take}
use Rattle.run_pre_match.specs.Found.{Found, given_in_pair, found_by, found_by_all}
use Rattle.match_constants.specs.Texts.{AreKnown}
use Rattle.run_pre_match.specs.inside.Kept.{Keeps, Follows, no_marks}
use Rattle.run_pre_match.proofs.candidate.Candidate.find_pair.Given as goal

abbrev pub invariant-loop-j : goal.invariant-loop-j
invariant-loop-j g l = record {
  known : AreKnown l.self.object l.self.contents.pieces l.values.texts;
  follows : (before : List Found) → Keeps l.self before l.fn.values
      → Follows l.self before (found_by_all (found_by l.depth l.self true) before
      (map (given_in_pair l.self l.pair) (take l.j l.refs))) no_marks l.marks l.values;
}
