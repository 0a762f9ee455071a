-- Each choice is that of the candidate which was tried there.
use Rattle.std.proofs.Common.{◌∙◌, ap, map}
use Rattle.match_candidates.specs.Candidates.{candidates}
use Rattle.symbol_solve.specs.inside.Numbers.{choice_of}
use Rattle.symbol_solve.proofs.CandidateLaws.{read, tried_read, tried_section, all_tried, here_of, runs_here}
use Rattle.symbol_solve.proofs.ChoiceLaws.{push_choice}
use Rattle.symbol_solve.proofs.choices.choices_of.Goals as goal

pub choice_among-requires : goal.choice_among-requires
choice_among-requires g c =
    let codes = c.codes-codes.result.now in
    let found = tried_read
    c.args.running.now c.args.object.now codes c.args.trials.now.tried c.tried-tried-items.result.now
    c.loop-tried.tried-index
    c.requires.tried c.tried-tried-items.ensures (c.codes-codes.ensures ∙ c.requires.codes) c.loop-tried-test.true in
    tried_section codes found.0 (read c.tried-tried-items.result.now c.loop-tried.tried-index) found.2

pub loop-tried-preserved : goal.loop-tried-preserved
loop-tried-preserved g c =
    let running = c.args.running.now in
    let object = c.args.object.now in
    let found = tried_read
    running object c.codes-codes.result.now c.args.trials.now.tried c.tried-tried-items.result.now
    c.loop-tried.tried-index
    c.requires.tried c.tried-tried-items.ensures (c.codes-codes.ensures ∙ c.requires.codes) c.loop-tried-test.true in
    let here = here_of running object c.loop-tried.tried-index found.0 found.1 in
    push_choice (choice_of object c.args.numbers.now) (candidates running object)
    c.loop-tried.tried-index found.0 c.loop-tried.choices.items c.push.new.self.items c.in_ok-choice_among.field-0
    found.1 c.loop-tried.invariant (c.in_ok-choice_among.ensures found.0 found.2
    (runs_here running object found.0 here) here.at) c.in_ok-push.ensures.items

pub returns : goal.returns
returns g c =
    c.loop-tried.invariant
    ∙ ap (map (choice_of c.args.object.now c.args.numbers.now))
    (all_tried c.args.running.now c.args.object.now c.args.trials.now.tried
    c.tried-tried-items.result.now c.loop-tried.tried-index c.requires.tried c.tried-tried-items.ensures
    c.loop-tried-test.false)
