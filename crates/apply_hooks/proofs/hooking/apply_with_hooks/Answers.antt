use Rattle.std.proofs.Common.{Bool, Result, Ok, ◌∙◌, ap}
use Rattle.std.proofs.lemmas.Result.{err_from_is_err_and}
use Rattle.ks_base.specs.declared.refusals.Refusal.{Refusal}
use Rattle.apply_hooks.proofs.HookingLaws.{applied_answers, applied_scratch, broken_answers, listed_answers, refused_answers}
use Rattle.apply_hooks.proofs.hooking.apply_with_hooks.Goals as goal

pub returns-in_err-lists_functions-clause-answered :
    goal.returns-in_err-lists_functions-clause-answered
returns-in_err-lists_functions-clause-answered g c =
    let p = err_from_is_err_and c.from_residual.result c.from_residual.ensures.1 in
    rw (p.1, p.2)
    (λ other. broken_answers c.args.system.now.machine c.args.name.now c.args.pre.now c.args.post.now _
    (c.in_err-lists_functions.ensures other))

pub returns-then-branch-clause-answered : goal.returns-then-branch-clause-answered
returns-then-branch-clause-answered g c =
    let listed = c.in_ok-lists_functions.ensures
    ∙ ap (λ (b : Bool). let r : Result Bool Refusal = Ok b in r) c.if-branch.true in
    listed_answers c.args.system.now.machine c.args.name.now c.args.pre.now c.args.post.now
    c.apply_listed.new.system.machine c.apply_listed.result listed c.apply_listed.ensures.ran

pub returns-in_err-apply-clause-answered : goal.returns-in_err-apply-clause-answered
returns-in_err-apply-clause-answered g c =
    let none = c.in_ok-lists_functions.ensures
    ∙ ap (λ (b : Bool). let r : Result Bool Refusal = Ok b in r) c.if-branch.false in
    let p = err_from_is_err_and c.from_residual-in_err-apply.result c.from_residual-in_err-apply.ensures.1 in
    rw (p.1, p.2)
    (λ other. refused_answers c.args.system.now.machine c.args.name.now c.args.pre.now c.args.post.now _ none
    (c.in_err-apply.ensures.answered other))

pub returns-clause-answered : goal.returns-clause-answered
returns-clause-answered g c =
    let none = c.in_ok-lists_functions.ensures
    ∙ ap (λ (b : Bool). let r : Result Bool Refusal = Ok b in r) c.if-branch.false in
    rw c.new.ensures
    (applied_answers c.args.system.now.machine c.args.name.now c.args.pre.now c.args.post.now c.apply.new.self.machine
    c.in_ok-apply.field-0 none c.in_ok-apply.ensures.answered)

pub returns-clause-scratch : goal.returns-clause-scratch
returns-clause-scratch g c =
    applied_scratch c.args.system.now.machine c.args.name.now c.args.pre.now c.args.post.now c.apply.new.self.machine
    c.in_ok-apply.field-0 c.in_ok-apply.ensures.answered
    ∙ c.requires.none
