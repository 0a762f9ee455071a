-- Field by field.
use Rattle.std.proofs.Common.{true, ◌++◌, List, map, take, sym}
use Rattle.run_pre_match.specs.declared.goals.Given.{Given}
use Rattle.run_pre_match.specs.Found.{given_in_pair, found_by, found_by_all}
use Rattle.run_pre_match.proofs.Following.{follows_begin, follows_step, one_more}
use Rattle.run_pre_match.proofs.candidate.Candidate.find_pair.Goals as goal

pub loop-j-init : goal.loop-j-init
loop-j-init g c = record {
  known = c.requires.known;
  follows = λ before keeps. rw c.none-marks.ensures
      (follows_begin c.args.self.now (found_by c.len-depth.result c.args.self.now true) before c.args.values.now keeps);
}

pub loop-j-preserved : goal.loop-j-preserved
loop-j-preserved g c = record {
  known = c.in_ok-follow.ensures.known;
  follows = λ before keeps.
      let f = given_in_pair c.args.self.now c.args.pair.now in
      let gs : List Given = map f (take c.loop-j.j c.references-refs.result.now) in
      let here = c.loop-j.invariant.follows before keeps in
      let next = c.in_ok-follow.ensures.follows
      (before ++ found_by_all (found_by c.len-depth.result c.args.self.now true) before gs) here.keeps in
      rw (
        one_more f c.references-refs.result.now c.loop-j.j c.index-refs-j.result c.loop-j-test.true c.index-refs-j.is,
        sym c.given_in_pair-given.ensures.given,
      )
      (follows_step c.args.self.now (found_by c.len-depth.result c.args.self.now true) before gs
      c.given_in_pair-given.result _ c.loop-j.marks c.follow.new.marks c.loop-j.values c.follow.new.values here
      next);
}
