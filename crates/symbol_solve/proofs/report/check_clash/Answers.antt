-- What comes of matching again is what comes of the candidates.
use Rattle.std.proofs.Common.{◌∙◌, Option, ap, subst, sym}
use Rattle.ks_base.specs.declared.refusals.Refusal.{Refusal}
use Rattle.run_pre_match.specs.declared.types.Matched.{Matched}
use Rattle.run_pre_match.specs.declared.types.MatchFault.{MatchFault}
use Rattle.std.specs.Prelude.{Result}
use Rattle.match_candidates.specs.Candidates.{Running}
use Rattle.symbol_solve.specs.Clashes.{claims_in}
use Rattle.symbol_solve.specs.inside.Claims.{GiveOneValue}
use Rattle.symbol_solve.specs.inside.Reported.{Refuses}
use Rattle.symbol_solve.proofs.Bodies.{clash_here}
use Rattle.symbol_solve.proofs.CandidateLaws.{again_of}
use Rattle.symbol_solve.proofs.report.check_clash.Goals as goal

pub returns : goal.returns
returns g c = λ one other held runs kept these at_one.
    let running = c.args.running.now in
    let a = c.args.one.now in
    let b = c.args.other.now in
    let memory = ap (λ (r : Running). r.contents) c.running.view_is in
    let comes = again_of running a.code.now one a.tried.now held runs ∙ sym c.in_ok-of_one.ensures in
    let came = again_of running b.code.now other b.tried.now kept these ∙ sym c.in_ok-of_other.ensures in
    subst (λ (report : Option Refusal). Refuses c.check_outcomes.result report)
    (clash_here (g.S.Space.contents c.running.inside.space.now) a.code.now b.code.now a.tried.now b.tried.now
    c.in_ok-of_one.of_one c.in_ok-of_other.of_other one other held (runs.memory ∙ sym memory) comes
    kept (these.memory ∙ sym memory) came)
    (c.check_outcomes.ensures (subst (λ (o : Result Matched MatchFault). GiveOneValue (claims_in o)) came at_one))
