use Rattle.std.proofs.Common.{sym, ◌∙◌, ap, ◌++◌, [], ◌∷◌}
use Rattle.std.proofs.lemmas.Result.{err_from_is_err_and}
use Rattle.run_pre_match.specs.Matched.{PreSection}
use Rattle.propagation.specs.Conflicts.{first_some}
use Rattle.match_candidates.specs.OwnFaults.{undecoded_in}
use Rattle.match_candidates.proofs.CodeLaws.{passes, takes_after, undecoded_later, undecoded_here}
use Rattle.match_candidates.proofs.codes.add_code.Goals as goal

pub returns-then-not-is_code-clause-codes : goal.returns-then-not-is_code-clause-codes
returns-then-not-is_code-clause-codes c rest =
    ap (λ l. c.args.codes.now ++ l) (passes c.args.object.now c.args.place c.args.section.now rest
    (sym c.is_code.ensures ∙ c.if-not-is_code.true))

pub returns-then-not-is_code-clause-ok : goal.returns-then-not-is_code-clause-ok
returns-then-not-is_code-clause-ok c rest =
    ap (λ l. first_some undecoded_in l) (passes c.args.object.now c.args.place c.args.section.now rest
    (sym c.is_code.ensures ∙ c.if-not-is_code.true))

pub returns-in_err-code-clause-refused : goal.returns-in_err-code-clause-refused
returns-in_err-code-clause-refused c =
    let p = err_from_is_err_and c.from_residual.result c.from_residual.ensures.1 in
    rw (p.1, p.2) (λ other rest. undecoded_here c.args.object.now c.args.place c.args.section.now rest _
    (sym c.is_code.ensures ∙ c.if-not-is_code.false) (c.in_err-code.ensures.refused other))

pub returns-clause-codes : goal.returns-clause-codes
returns-clause-codes c rest =
    takes_after c.args.codes.now c.push.new.self c.args.object.now c.args.place c.args.section.now rest
    (sym c.is_code.ensures ∙ c.if-not-is_code.false)
    (c.in_ok-push.ensures.ok ∙ ap (λ (x : PreSection). c.args.codes.now ++ x ∷ []) c.in_ok-code.ensures.code)

pub returns-clause-ok : goal.returns-clause-ok
returns-clause-ok c rest =
    undecoded_later c.args.object.now c.args.place c.args.section.now rest (sym c.is_code.ensures
    ∙ c.if-not-is_code.false) c.in_ok-code.ensures.ok
