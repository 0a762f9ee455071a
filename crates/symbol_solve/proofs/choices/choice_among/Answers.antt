use Rattle.std.proofs.Common.{◌≡◌, ◌∙◌, [], ap, refl, sym}
use Rattle.std.specs.List.{slice_get}
use Rattle.std.specs.Option.{unwrap_or}
use Rattle.run_pre_match.specs.Matched.{outcome}
use Rattle.match_candidates.specs.Candidates.{Running}
use Rattle.symbol_solve.specs.inside.Numbers.{choice_of}
use Rattle.symbol_solve.proofs.CandidateLaws.{again_tried}
use Rattle.symbol_solve.proofs.ChoiceLaws.{choice_of_tried, lies_tried, no_choice_of, told_as}
use Rattle.symbol_solve.proofs.choices.choice_among.Goals as goal

pub returns-then-not-matches : goal.returns-then-not-matches
returns-then-not-matches g c = λ d tried runs at.
    no_choice_of c.args.naming.now.object.now c.args.naming.now.numbers.now
    c.args.codes.now d c.index-codes-tried.result c.args.tried.now c.no_choice.result c.in_ok-word.field-0
    c.requires c.index-codes-tried.is tried
    (sym c.matches.ensures ∙ c.if-not-matches.true) (c.in_ok-word.ensures.value ∙ c.place.ensures) c.no_choice.ensures

pub returns : goal.returns
returns g c = λ d tried runs at.
    let code = c.index-codes-tried.result in
    let came = c.in_ok-outcome.outcome in
    let comes : outcome d ≡ came = again_tried c.args.running.now
    c.args.codes.now code d c.args.tried.now c.requires c.index-codes-tried.is tried runs
    ∙ sym c.in_ok-outcome.ensures in
    let contents = runs.memory ∙ sym (ap (λ (r : Running). r.contents) c.running.view_is) in
    told_as c.choice_at.result _ (choice_of c.args.naming.now.object.now c.args.naming.now.numbers.now d)
    (choice_of_tried c.args.naming.now.object.now
    c.args.naming.now.numbers.now c.args.naming.now.own.items c.args.codes.now d code code.place c.args.tried.now came
    (g.S.Space.contents c.running.inside.space.now) (unwrap_or (slice_get c.args.naming.now.own.items code.place) [])
    c.requires c.index-codes-tried.is c.args.naming.now.count c.args.naming.now.lists refl refl tried comes contents at)
    (c.choice_at.ensures
    (λ m is. lies_tried c.matches_have_one_valuation.ensures.some
    (λ memory a i e.
    (c.run_code_goes_on.ensures.place memory a i e, c.run_code_goes_on.ensures.some_bytes memory a i e))
    c.args.codes.now d code c.args.tried.now came
    (g.S.Space.contents c.running.inside.space.now) m c.requires c.index-codes-tried.is tried comes contents is))
