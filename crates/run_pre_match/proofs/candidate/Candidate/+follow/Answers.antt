-- The value is judged; what it opens is followed field by field.
use Rattle.std.proofs.Common.{◌≡◌, inl, inr, ◌-◌, List, ◌++◌, map, take, length, get_or, sym, ◌∙◌, ap, arith}
use Rattle.std.proofs.lemmas.List.{take_all}
use Rattle.run_pre_match.specs.declared.goals.Given.{Given}
use Rattle.run_pre_match.specs.Candidate.{Candidate}
use Rattle.run_pre_match.specs.Differences.{is_in_section}
use Rattle.run_pre_match.specs.Found.{given_in_constant}
use Rattle.run_pre_match.specs.inside.Kept.{marks_for, joined}
use Rattle.run_pre_match.proofs.Following.{follows_one, follows_alone, follows_none, follows_next, found_after}
use Rattle.run_pre_match.proofs.Following.{found_open, opened_other, opened_nowhere, opened_here, one_more}
use Rattle.run_pre_match.proofs.Following.{reference_there, not_opened, is_opened}
use Rattle.run_pre_match.proofs.candidate.Candidate.+follow.Goals as goal
use Rattle.run_pre_match.proofs.candidate.Candidate.+follow.Goals.{then-depth-eq0-via-then-depth-eq0}
use Rattle.run_pre_match.proofs.candidate.Candidate.+follow.Goals.{then-depth-eq0-via-else-depth-eq0+then-not-judged}

pub returns-then-depth-eq0-clause-follows : goal.returns-then-depth-eq0-clause-follows
returns-then-depth-eq0-clause-follows g t c = λ before keeps.
    let j = c.in_ok-judged.ensures.judges before keeps in
    let marks = c.add.ensures ∙ ap (λ b. joined c.args.marks.now (marks_for c.args.own b c.in_ok-judged.judged.verdict))
    (c.is_in_section.ensures ∙ ap (λ (x : Candidate). is_in_section x.place c.args.given.now.goal) c.self.view_is)
    in
    let here = follows_one c.args.self.now before c.args.own c.args.given.now c.in_ok-judged.judged c.args.marks.now
    c.add.new.self c.judge.new.values marks j in
    elim c.then-depth-eq0.branch [
      | then-depth-eq0-via-then-depth-eq0 w ↦
          follows_alone c.args.depth c.args.self.now c.args.own before c.args.given.now c.args.marks.now c.add.new.self
          c.judge.new.values (inl w.if-depth-eq0.true) here
      | then-depth-eq0-via-else-depth-eq0+then-not-judged w ↦
          follows_alone c.args.depth c.args.self.now c.args.own before c.args.given.now c.args.marks.now c.add.new.self
          c.judge.new.values (inr (not_opened c.args.self.now before c.args.given.now c.in_ok-judged.judged
          c.judge.new.values j w.if-not-judged.true)) here
    ]

pub returns-in_default : goal.returns-in_default
returns-in_default g t c = record {
  follows = λ before keeps.
      let j = c.in_ok-judged.ensures.judges before keeps in
      let marks = c.add.ensures ∙ ap (λ b. joined c.args.marks.now
      (marks_for c.args.own b c.in_ok-judged.judged.verdict))
      (c.is_in_section.ensures ∙ ap (λ (x : Candidate). is_in_section x.place c.args.given.now.goal) c.self.view_is)
      in
      let here = follows_one c.args.self.now before c.args.own c.args.given.now c.in_ok-judged.judged c.args.marks.now
      c.add.new.self c.judge.new.values marks j in
      follows_alone c.args.depth c.args.self.now c.args.own before c.args.given.now c.args.marks.now c.add.new.self
      c.judge.new.values (inr (opened_other c.args.self.now before c.args.given.now.goal c.args.given.now.value
      c.in_default.not-Constant)) here;
  known = c.in_ok-judged.ensures.known;
}

pub returns-in_default-section-clause-follows : goal.returns-in_default-section-clause-follows
returns-in_default-section-clause-follows g t c = λ before keeps.
    let j = c.in_ok-judged.ensures.judges before keeps in
    let marks = c.add.ensures ∙ ap (λ b. joined c.args.marks.now (marks_for c.args.own b c.in_ok-judged.judged.verdict))
    (c.is_in_section.ensures ∙ ap (λ (x : Candidate). is_in_section x.place c.args.given.now.goal) c.self.view_is)
    in
    let here = follows_one c.args.self.now before c.args.own c.args.given.now c.in_ok-judged.judged c.args.marks.now
    c.add.new.self c.judge.new.values marks j in
    follows_alone c.args.depth c.args.self.now c.args.own before c.args.given.now c.args.marks.now c.add.new.self
    c.judge.new.values (inr (opened_nowhere c.args.self.now before c.args.given.now c.in_ok-judged.judged
    c.judge.new.values c.in-Constant.place j c.in-Constant.is c.in_default-section.ensures.found)) here

pub loop-k-init : goal.loop-k-init
loop-k-init g t c = record {
  known = c.in_ok-judged.ensures.known;
  follows = λ before keeps.
      let j = c.in_ok-judged.ensures.judges before keeps in
      let marks = c.add.ensures ∙ ap (λ b. joined c.args.marks.now
      (marks_for c.args.own b c.in_ok-judged.judged.verdict))
      (c.is_in_section.ensures ∙ ap (λ (x : Candidate). is_in_section x.place c.args.given.now.goal) c.self.view_is)
      in
      let here = follows_one c.args.self.now before c.args.own c.args.given.now c.in_ok-judged.judged c.args.marks.now
      c.add.new.self c.judge.new.values marks j in
      follows_none (c.args.depth - 1) c.args.self.now c.args.own before c.args.given.now c.args.marks.now c.add.new.self
      c.judge.new.values here;
}

pub given_in_constant-next-requires : goal.given_in_constant-next-requires
given_in_constant-next-requires g t c =
    reference_there c.args.self.now.object c.in-Constant.place c.loop-k.k c.in-Some.section.now c.index-refs-k.result
    c.in-Some.ensures.found
    (omega (arith, ap length c.as_slice-refs.ensures))
    (c.index-refs-k.is ∙ ap (λ refs. get_or refs c.loop-k.k c.index-refs-k.result) c.as_slice-refs.ensures)

pub loop-k-preserved : goal.loop-k-preserved
loop-k-preserved g t c = record {
  known = c.in_ok-follow.ensures.known;
  follows = λ before keeps.
      let f = given_in_constant c.args.self.now c.args.given.now.value in
      let gs : List Given = map f (take c.loop-k.k c.as_slice-refs.result.now) in
      let here = c.loop-k.invariant.follows before keeps in
      let next = c.in_ok-follow.ensures.follows
      (before ++ found_after (c.args.depth - 1) c.args.self.now c.args.own before c.args.given.now gs) here.keeps in
      rw (
        one_more f c.as_slice-refs.result.now c.loop-k.k c.index-refs-k.result c.loop-k-test.true c.index-refs-k.is,
        sym c.given_in_constant-next.ensures.given,
      )
      (follows_next (c.args.depth - 1) c.args.self.now c.args.own before c.args.given.now gs
      c.given_in_constant-next.result c.args.marks.now c.loop-k.marks c.follow.new.marks c.loop-k.values
      c.follow.new.values here next);
}

pub returns-clause-follows : goal.returns-clause-follows
returns-clause-follows g t c = λ before keeps.
    let judges = c.in_ok-judged.ensures.judges before keeps in
    let f = given_in_constant c.args.self.now c.args.given.now.value in
    let opened = opened_here c.args.self.now before c.args.given.now c.in_ok-judged.judged c.judge.new.values
    c.in-Constant.place c.in-Some.section.now judges c.in-Constant.is c.in-Some.ensures.found
    (is_opened c.in_ok-judged.judged.opens c.if-not-judged.false) in
    let all : map f (take c.loop-k.k c.as_slice-refs.result.now) ≡ map f c.in-Some.section.now.refs =
    ap (map f) (take_all c.loop-k.k c.as_slice-refs.result.now c.loop-k-test.false ∙ c.as_slice-refs.ensures) in
    rw (found_open c.args.depth c.args.self.now c.args.own before c.args.given.now
    (map f (take c.loop-k.k c.as_slice-refs.result.now)) c.if-depth-eq0.false (opened ∙ sym all))
    (c.loop-k.invariant.follows before keeps)
