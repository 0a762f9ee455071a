-- Pair by pair.
use Rattle.std.proofs.Common.{subst, arith}
use Rattle.match_instructions.specs.Instructions.{kept_of}
use Rattle.run_pre_match.specs.Candidate.{pre_list, run_list}
use Rattle.run_pre_match.specs.inside.Kept.{IsKind}
use Rattle.run_pre_match.proofs.PairLaws.{pair_of, length-pairs_from, none_within, pair_there, compared_none}
use Rattle.run_pre_match.proofs.PairLaws.{compared_differs, compared_more, compared_all, so_far}
use Rattle.run_pre_match.proofs.candidate.Candidate.compare_pairs.Goals as goal

pub loop-k-init : goal.loop-k-init
loop-k-init g c = compared_none c.args.self.now c.args.said.now c.args.values.now c.requires.home c.requires.known

pub returns-in_default : goal.returns-in_default
returns-in_default g c =
    let count = length-pairs_from 0 (kept_of (pre_list c.args.self.now)) (kept_of (run_list c.args.self.now)) in
    absurd (none_within (kept_of (pre_list c.args.self.now)) c.loop-k.k c.pair_count-k-end.result
    c.in_default.ensures.nth c.loop-k-test.true (omega (arith, c.pair_count-k-end.ensures, count)))

pub returns-in_default-run_at : goal.returns-in_default-run_at
returns-in_default-run_at g c =
    let count = length-pairs_from 0 (kept_of (pre_list c.args.self.now)) (kept_of (run_list c.args.self.now)) in
    absurd (none_within (kept_of (run_list c.args.self.now)) c.loop-k.k c.pair_count-k-end.result
    c.in_default-run_at.ensures c.loop-k-test.true (omega (arith, c.pair_count-k-end.ensures, count)))

pub returns-in-Some-2 : goal.returns-in-Some-2
returns-in-Some-2 g c =
    let pair = pair_of c.loop-k.k c.in-Some.pre c.in-Some-run_at.run' in
    compared_differs c.args.self.now c.args.said.now c.loop-k.said c.loop-k.values c.compare.new.values c.loop-k.k pair
    c.in-Some-2.kind c.difference.result
    (pair_there c.args.self.now c.loop-k.k c.in-Some.pre c.in-Some-run_at.run' c.in-Some.ensures.nth
    c.in-Some-run_at.ensures) c.loop-k.invariant
    (subst (λ o. IsKind c.args.self.now (so_far c.args.self.now c.loop-k.k) pair o c.compare.new.values) c.in-Some-2.is
    (c.in_ok-kind.ensures.kind (so_far c.args.self.now c.loop-k.k) c.loop-k.invariant.keeps)) c.difference.ensures

pub loop-k-preserved : goal.loop-k-preserved
loop-k-preserved g c =
    let pair = pair_of c.loop-k.k c.in-Some.pre c.in-Some-run_at.run' in
    compared_more c.args.self.now c.args.said.now c.loop-k.said c.state_pair.new.said c.loop-k.values
    c.compare.new.values c.loop-k.k pair
    (pair_there c.args.self.now c.loop-k.k c.in-Some.pre c.in-Some-run_at.run' c.in-Some.ensures.nth
    c.in-Some-run_at.ensures) c.loop-k.invariant
    (subst (λ o. IsKind c.args.self.now (so_far c.args.self.now c.loop-k.k) pair o c.compare.new.values)
    c.in_default-2.is (c.in_ok-kind.ensures.kind (so_far c.args.self.now c.loop-k.k) c.loop-k.invariant.keeps))
    c.in_ok-kind.ensures.known c.in_ok-state_pair.ensures.claims c.in_ok-state_pair.ensures.interiors

pub returns : goal.returns
returns g c =
    compared_all c.args.self.now c.args.said.now c.loop-k.said c.loop-k.values c.loop-k.k c.break_off.result
    (omega (arith, c.pair_count-k-end.ensures)) c.loop-k.invariant c.break_off.ensures
