-- What was tried at each place is the candidate there.
use Rattle.std.proofs.Common.{All, subst, ◌∙◌}
use Rattle.run_pre_match.specs.Candidate.{Candidate}
use Rattle.run_pre_match.specs.Matched.{outcome}
use Rattle.match_candidates.specs.Candidates.{candidates}
use Rattle.symbol_solve.specs.inside.Numbers.{IsNumbered}
use Rattle.symbol_solve.proofs.CandidateLaws.{read, tried_read, tried_section, all_tried, here_of, runs_here}
use Rattle.symbol_solve.proofs.NumberLaws.{outcomes_kept, outcomes_more}
use Rattle.symbol_solve.proofs.numbers.number_all.Goals as goal

pub add_tried-requires : goal.add_tried-requires
add_tried-requires g c =
    let codes = c.codes-codes.result.now in
    let found = tried_read
    c.args.running.now c.args.object.now codes c.args.trials.now.tried c.tried-tried-items.result.now
    c.loop-tried.tried-index
    c.requires.tried c.tried-tried-items.ensures (c.codes-codes.ensures ∙ c.requires.codes) c.loop-tried-test.true in
    tried_section codes found.0 (read c.tried-tried-items.result.now c.loop-tried.tried-index) found.2

pub loop-tried-preserved : goal.loop-tried-preserved
loop-tried-preserved g c =
    let running = c.args.running.now in
    let object = c.args.object.now in
    let found = tried_read
    running object c.codes-codes.result.now c.args.trials.now.tried c.tried-tried-items.result.now
    c.loop-tried.tried-index
    c.requires.tried c.tried-tried-items.ensures (c.codes-codes.ensures ∙ c.requires.codes) c.loop-tried-test.true in
    let runs = runs_here running object found.0 (here_of running object c.loop-tried.tried-index found.0 found.1) in
    outcomes_more object c.loop-tried.numbers c.add_tried.new.self
    (candidates running object) c.loop-tried.tried-index found.0 found.1
    c.in_ok-add_tried.ensures.grows (c.in_ok-add_tried.ensures.numbered found.0 found.2 runs) c.loop-tried.invariant

pub returns-clause-numbered : goal.returns-clause-numbered
returns-clause-numbered g c =
    let cs = candidates c.args.running.now c.args.object.now in
    outcomes_kept c.args.object.now c.loop-tried.numbers c.sort_points.new.self cs c.in_ok-sort_points.ensures.grows
    (subst (λ l. All (λ (d : Candidate). IsNumbered c.args.object.now c.loop-tried.numbers (outcome d)) l)
    (all_tried c.args.running.now c.args.object.now c.args.trials.now.tried
    c.tried-tried-items.result.now c.loop-tried.tried-index c.requires.tried c.tried-tried-items.ensures
    c.loop-tried-test.false)
    c.loop-tried.invariant)
