use Rattle.std.proofs.Common.{arith, ◌≡◌, ℕ, suc, ◌+◌, ◌-◌, ◌<◌, ◌≤◌, Some, None, drop, length, sym, ap, ◌∙◌}
use Rattle.std.proofs.lemmas.Result.{err_from_is_err_and}
use Rattle.run_pre_match.specs.Candidate.{Candidate}
use Rattle.symbol_solve.specs.declared.left.Held.{Held}
use Rattle.symbol_solve.specs.Solve.{first_twins}
use Rattle.symbol_solve.specs.inside.Left.{IsOf}
use Rattle.symbol_solve.proofs.TwinLaws.{twins_step, twins_end}
use Rattle.symbol_solve.proofs.solving.check_twins.Goals as goal

abbrev Is : Candidate → Held → Type 0
Is c h = IsOf h.code.now c h.tried.now

pub returns-in_err-check_apart : goal.returns-in_err-check_apart
returns-in_err-check_apart c =
    let k : ℕ = c.loop-k.k in
    let next : suc (k - 1) ≡ k = omega arith in
    let within : k < length c.args.held.now = omega arith in
    let p = err_from_is_err_and c.from_residual.result c.from_residual.ensures.1 in
    rw (p.1, p.2) (λ cs all other.
    c.loop-k.invariant cs all
    ∙ twins_step Is cs c.args.held.now (k - 1) k c.index-held-k.result c.index-held-k-in-loop-k.result
    (Some _) all next within c.index-held-k.is c.index-held-k-in-loop-k.is
    (λ one two held kept. sym (c.in_err-check_apart.ensures one two held kept other)))

pub loop-k-preserved : goal.loop-k-preserved
loop-k-preserved c = λ cs all.
    let k : ℕ = c.loop-k.k in
    let next : suc (k - 1) ≡ k = omega arith in
    let within : k < length c.args.held.now = omega arith in
    let later : k ≡ c.loop-k.k + 1 - 1 = omega arith in
    c.loop-k.invariant cs all
    ∙ twins_step Is cs c.args.held.now (k - 1) k c.index-held-k.result c.index-held-k-in-loop-k.result
    None all next within c.index-held-k.is c.index-held-k-in-loop-k.is
    (λ one two held kept. sym (c.in_ok-check_apart.ensures one two held kept))
    ∙ ap (λ n. first_twins (drop n cs)) later

pub returns : goal.returns
returns c = λ cs all.
    let few : length c.args.held.now ≤ suc (c.loop-k.k - 1) = omega arith in
    c.loop-k.invariant cs all ∙ twins_end Is cs c.args.held.now (c.loop-k.k - 1) all few
