use Rattle.std.proofs.Common.{◌≡◌, ◌<◌, length, arith}
use Rattle.std.proofs.lemmas.Result.{err_from_is_err_and}
use Rattle.run_pre_match.specs.Matched.{PreSection}
use Rattle.match_candidates.specs.Candidates.{candidates_of, homes_of}
use Rattle.match_candidates.specs.OwnFaults.{missing_in}
use Rattle.match_candidates.proofs.FirstLaws.{map_next, none_more, some_there, none_at_all}
use Rattle.match_candidates.proofs.homes.all_homes.Goals as goal

pub returns-in_err-own-clause-refused : goal.returns-in_err-own-clause-refused
returns-in_err-own-clause-refused g c =
    let p = err_from_is_err_and c.from_residual.result c.from_residual.ensures.1 in
    let codes = c.args.codes.now in
    let lacks = λ (pre : PreSection). missing_in pre (candidates_of c.args.running.now pre) in
    let lt : c.loop-code.code-index < length codes = omega arith in
    rw (p.1, p.2) (λ other. some_there lacks codes c.loop-code.code-index c.code-item.result _ lt c.code-item.is
    (c.in_err-own.ensures.refused other) c.loop-code.invariant.none)

pub loop-code-preserved : goal.loop-code-preserved
loop-code-preserved g c =
    let codes = c.args.codes.now in
    let code = c.code-item.result in
    let lacks = λ (pre : PreSection). missing_in pre (candidates_of c.args.running.now pre) in
    let i = c.loop-code.code-index in
    let lt : i < length codes = omega arith in
    let before = c.loop-code.invariant in
    let own = c.in_ok-own.ensures in
    record {
      homes = map_next (homes_of c.args.running.now) codes c.loop-code.homes c.push.new.self i code code
          c.in_ok-own.own lt c.code-item.is own.homes before.homes c.in_ok-push.ensures.ok;
      none = none_more lacks codes i code lt c.code-item.is own.ok before.none;
    }

pub returns-clause-ok : goal.returns-clause-ok
returns-clause-ok g c =
    let codes = c.args.codes.now in
    let lacks = λ (pre : PreSection). missing_in pre (candidates_of c.args.running.now pre) in
    let all : c.loop-code.code-index ≡ length codes = omega arith in
    none_at_all lacks codes c.loop-code.code-index all c.loop-code.invariant.none
