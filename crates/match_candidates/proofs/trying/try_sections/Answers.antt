use Rattle.std.proofs.Common.{◌≡◌, ◌<◌, length, arith}
use Rattle.std.proofs.lemmas.Result.{err_from_is_err_and}
use Rattle.run_pre_match.specs.Matched.{PreSection}
use Rattle.match_candidates.specs.Candidates.{candidates_of}
use Rattle.match_candidates.specs.OwnFaults.{mismatch_in}
use Rattle.match_candidates.proofs.FirstLaws.{none_more, some_there, none_at_all}
use Rattle.match_candidates.proofs.TriedLaws.{tried_next, tried_all}
use Rattle.match_candidates.proofs.trying.try_sections.Goals as goal

pub returns-in_err-try_section-clause-refused : goal.returns-in_err-try_section-clause-refused
returns-in_err-try_section-clause-refused g c =
    let p = err_from_is_err_and c.from_residual.result c.from_residual.ensures.1 in
    let codes = c.args.codes.now in
    let code = c.index-codes-number in
    let differs = λ (pre : PreSection). mismatch_in pre (candidates_of c.args.running.now pre) in
    let lt : c.loop-number.number < length codes = omega arith in
    rw (p.1, p.2) (λ other. some_there differs codes c.loop-number.number code.result _ lt code.is
    (c.in_err-try_section.ensures.refused other) c.loop-number.invariant.none)

pub loop-number-preserved : goal.loop-number-preserved
loop-number-preserved g c =
    let codes = c.args.codes.now in
    let code = c.index-codes-number in
    let differs = λ (pre : PreSection). mismatch_in pre (candidates_of c.args.running.now pre) in
    let i = c.loop-number.number in
    let lt : i < length codes = omega arith in
    let before = c.loop-number.invariant in
    let step = c.in_ok-try_section.ensures in
    record {
      tried = tried_next c.args.running.now codes c.loop-number.tried.items c.try_section.new.tried.items i
          code.result lt code.is step.tried before.tried;
      none = none_more differs codes i code.result lt code.is step.ok before.none;
    }

pub returns-clause-tried : goal.returns-clause-tried
returns-clause-tried g c =
    let codes = c.args.codes.now in
    let all : c.loop-number.number ≡ length codes = omega arith in
    tried_all c.args.running.now codes c.loop-number.tried.items c.loop-number.number all
    c.loop-number.invariant.tried

pub returns-clause-ok : goal.returns-clause-ok
returns-clause-ok g c =
    let codes = c.args.codes.now in
    let differs = λ (pre : PreSection). mismatch_in pre (candidates_of c.args.running.now pre) in
    let all : c.loop-number.number ≡ length codes = omega arith in
    none_at_all differs codes c.loop-number.number all c.loop-number.invariant.none
