use Rattle.std.proofs.Common.{rules, ap, ◌++◌, List, arith}
use Rattle.ks_base.specs.declared.places.Range.{Range}
use Rattle.link_post.proofs.SweepLaws.{stands_from, begun, stands_next, step_next, ended, first_at}
use Rattle.link_post.proofs.arena.leave.Goals as goal
use Rattle.link_post.proofs.arena.leave.Goals.{then-loop-at-test+else-taken-at, else-loop-at-test}

pub loop-at-init : goal.loop-at-init
loop-at-init c =
    let taken = c.args.taken.now in
    let range = c.args.range in
    let from = c.args.from in
    let full = c.requires.full in
    record {
      stands = stands_from taken range.low range.high from.next from.reach (omega arith) c.requires.stands;
      same =
          ap (λ (xs : List Range). c.args.left.now ++ xs)
          (begun taken range from.next from.reach full c.requires.stands);
    }

pub loop-at-preserved : goal.loop-at-preserved
loop-at-preserved c =
    let taken = c.args.taken.now in
    let range = c.args.range in
    let at = c.loop-at.at in
    let now = c.in_ok-at.ensures in
    record {
      stands =
          stands_next taken range.high at.next at.reach _ _ _ now.next now.reach (omega arith) (search rules)
          (omega arith) c.loop-at.invariant.stands;
      same =
          step_next taken c.loop-at.left c.pass.new.left _ range.low range.high at.next at.reach _ _ _ now.next
          now.reach now.left c.requires.rises (omega arith) (search rules) (omega arith) c.loop-at.invariant.same;
    }

pub returns-clause-left : goal.returns-clause-left
returns-clause-left c =
    let taken = c.args.taken.now in
    let range = c.args.range in
    let at = c.loop-at.at in
    ended taken c.loop-at.left c.put.new.left _ range.low range.high at.next at.reach _ c.in_ok-put.ensures
    c.max.ensures c.requires.rises
    (elim c.loop-at-test.branch [
      | then-loop-at-test+else-taken-at w ↦ λ d less.
          first_at taken at.next range.high _ d less w.if-taken-at.false
      | else-loop-at-test w ↦ λ d less. absurd (omega arith)
    ])
    c.loop-at.invariant.same
