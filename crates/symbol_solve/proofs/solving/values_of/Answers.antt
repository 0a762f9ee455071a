use Rattle.std.proofs.Common.{arith, ◌<◌, ◌≤◌, length, List, sym, ap, ◌∙◌}
use Rattle.std.specs.List.{flat_map, fold}
use Rattle.run_pre_match.specs.Candidate.{Candidate}
use Rattle.match_candidates.specs.Candidates.{Running}
use Rattle.symbol_solve.specs.declared.left.Held.{Held}
use Rattle.symbol_solve.specs.Solve.{Value, with_value, values_of, values}
use Rattle.symbol_solve.specs.inside.Left.{IsOf, RunsIn}
use Rattle.symbol_solve.proofs.TwinLaws.{values_step, values_end}
use Rattle.symbol_solve.proofs.solving.values_of.Goals as goal

abbrev Is : Running → Candidate → Held → Type 0
Is running c h = IsOf h.code.now c h.tried.now × RunsIn running c

pub loop-one-init : goal.loop-one-init
unfolding values
loop-one-init g c =
    λ cs all. ap (λ (l : List Value). fold with_value l (flat_map values_of cs)) (sym c.new-found.ensures.empty)

pub loop-one-preserved : goal.loop-one-preserved
loop-one-preserved g c = λ cs all.
    let within : c.loop-one.one-index < length c.args.held.now = omega arith in
    c.loop-one.invariant cs all
    ∙ values_step (Is c.args.running.now) cs c.args.held.now c.loop-one.one-index
    c.one-item.result c.loop-one.found.entries c.put_candidate.new.values.entries all within c.one-item.is
    (λ d one. c.in_ok-put_candidate.ensures d one.0 one.1)

pub returns : goal.returns
returns g c = λ cs all.
    let few : length c.args.held.now ≤ c.loop-one.one-index = omega arith in
    sym (c.loop-one.invariant cs all
    ∙ values_end (Is c.args.running.now) cs c.args.held.now c.loop-one.one-index c.loop-one.found.entries all few)
