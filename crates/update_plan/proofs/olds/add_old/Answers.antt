use Rattle.std.proofs.Common.{◌≡◌, ◌++◌, ℕ, List, true, false, sym, ap, ◌∙◌, append-nil, arith}
use Rattle.std.proofs.lemmas.Result.{on_ok_weaker}
use Rattle.symbol_table.specs.declared.values.Unknown.TheVariants.{Code}
use Rattle.link_post.specs.Values.{solved_as}
use Rattle.update_plan.specs.Olds.{is_function, old_as}
use Rattle.update_plan.proofs.Steps.{one_old, no_old}
use Rattle.update_plan.proofs.olds.add_old.Goals as goal

pub returns-then-not-is_code : goal.returns-then-not-is_code
returns-then-not-is_code c = λ extract are.
    let olds = c.args.olds.now.items in
    let none : is_function c.args.section.now ≡ false = grind arith in
    sym (ap (λ ys. olds ++ ys) (no_old extract c.args.values.now.entries c.args.section.now none) ∙ append-nil olds)

pub returns : goal.returns
returns c =
    let olds = c.args.olds.now.items in
    let values = c.args.values.now.entries in
    let section = c.args.section.now in
    let code : is_function section ≡ true = grind arith in
    let name : c.in_ok-from_slice.field-0 ≡ section.name = c.in_ok-from_slice.ensures ∙ c.as_slice.ensures in
    let solved : c.solved_as-solved.result ≡ solved_as values (Code section.name) =
    c.solved_as-solved.ensures ∙ ap (λ (name : List ℕ). solved_as values (Code name)) name in
    on_ok_weaker c.add_solved.result
    (λ step extract are. step extract are
    ∙ ap (λ ys. olds ++ ys) (ap (old_as extract section) solved ∙ sym (one_old extract values section code)))
    c.add_solved.ensures
