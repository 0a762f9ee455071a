use Rattle.std.proofs.Common.{ℕ, List, Err, sym, ◌∙◌, ap}
use Rattle.std.proofs.lemmas.Result.{err_from_is_err_and}
use Rattle.ks_base.specs.declared.refusals.Refusal.TheVariants.{NoUpdate}
use Rattle.update_stack.specs.Undo.{ranges_in}
use Rattle.update_stack.proofs.UndoneLaws.{IsNamedAt, name_none, name_untold, name_refused, name_done, name_told}
use Rattle.update_stack.proofs.UndoneLaws.{later_refused, free_refusal, update_there, threads_want_none}
use Rattle.update_stack.proofs.system.System.undo_named.Goals as goal

pub returns-in_err-name-clause-memory : goal.returns-in_err-name-clause-memory
returns-in_err-name-clause-memory g c =
    let p = err_from_is_err_and c.from_residual.result c.from_residual.ensures.1 in
    rw p.1 (λ memory. name_untold c.args.self.now.machine c.args.name.now c.in_default.ensures)

pub returns-in_default-clause-answered : goal.returns-in_default-clause-answered
returns-in_default-clause-answered g c other =
    name_none c.args.self.now.machine c.args.name.now c.in_default.ensures
    ∙ ap (λ (n : List ℕ). Err (NoUpdate n)) (sym (c.in_ok-name.ensures ∙ c.as_slice.ensures))

pub returns-in_err-check_later-clause-answered : goal.returns-in_err-check_later-clause-answered
returns-in_err-check_later-clause-answered g c =
    let is : IsNamedAt c.args.self.now.machine c.args.name.now c.in-Some.at = record {
      less = c.in-Some.ensures.0;
      named_there = c.in-Some.ensures.1;
    } in
    let p = err_from_is_err_and c.from_residual-in_err-check_later.result
    c.from_residual-in_err-check_later.ensures.1 in
    rw (p.1, p.2) (λ other. name_refused c.args.self.now.machine c.args.name.now c.in-Some.at _ is
    (λ update here. later_refused c.args.self.now.machine update _
    (c.in_err-check_later.ensures.found update here other)))

pub returns-in_err-check_later-clause-memory : goal.returns-in_err-check_later-clause-memory
returns-in_err-check_later-clause-memory g c =
    let is : IsNamedAt c.args.self.now.machine c.args.name.now c.in-Some.at = record {
      less = c.in-Some.ensures.0;
      named_there = c.in-Some.ensures.1;
    } in
    let p = err_from_is_err_and c.from_residual-in_err-check_later.result
    c.from_residual-in_err-check_later.ensures.1 in
    rw p.1 (λ memory. name_told c.args.self.now.machine c.args.name.now c.in-Some.at is
    c.in_err-check_later.ensures.told)

pub returns-in_err-check_threads_in-clause-answered : goal.returns-in_err-check_threads_in-clause-answered
returns-in_err-check_threads_in-clause-answered g c =
    let is : IsNamedAt c.args.self.now.machine c.args.name.now c.in-Some.at = record {
      less = c.in-Some.ensures.0;
      named_there = c.in-Some.ensures.1;
    } in
    let p = err_from_is_err_and c.from_residual-in_err-check_threads_in.result
    c.from_residual-in_err-check_threads_in.ensures.1 in
    rw (p.1, p.2) (λ other. name_refused c.args.self.now.machine c.args.name.now c.in-Some.at _ is
    (λ update here.
    let clear = c.in_ok-check_later.ensures.found update here in
    free_refusal c.args.self.now.machine update (record { clear = clear.0; unneeded = clear.1 })
    ∙ sym (c.in_err-check_threads_in.ensures update here)))

pub returns-in_err-check_threads_in-clause-memory : goal.returns-in_err-check_threads_in-clause-memory
returns-in_err-check_threads_in-clause-memory g c =
    let is : IsNamedAt c.args.self.now.machine c.args.name.now c.in-Some.at = record {
      less = c.in-Some.ensures.0;
      named_there = c.in-Some.ensures.1;
    } in
    let update = update_there c.args.self.now.machine c.args.name.now c.in-Some.at is in
    let p = err_from_is_err_and c.from_residual-in_err-check_threads_in.result
    c.from_residual-in_err-check_threads_in.ensures.1 in
    rw (p.1, p.2) (λ memory. absurd (threads_want_none c.args.self.now.machine.pieces (ranges_in
    c.args.self.now.machine update.0)
    c.args.self.now.machine.threads _ memory (c.in_err-check_threads_in.ensures update.0 update.1)))

pub take_back_at-requires-clause-place : goal.take_back_at-requires-clause-place
take_back_at-requires-clause-place g c = c.in-Some.ensures.0

pub take_back_at-requires-clause-uncovered : goal.take_back_at-requires-clause-uncovered
take_back_at-requires-clause-uncovered g c update here = (c.in_ok-check_later.ensures.found update here).0

pub returns-clause-answered : goal.returns-clause-answered
returns-clause-answered g c =
    let is : IsNamedAt c.args.self.now.machine c.args.name.now c.in-Some.at = record {
      less = c.in-Some.ensures.0;
      named_there = c.in-Some.ensures.1;
    } in
    name_done c.args.self.now.machine c.take_back_at.new.self.machine c.args.name.now c.in-Some.at is
    (λ update here.
    let clear = c.in_ok-check_later.ensures.found update here in
    free_refusal c.args.self.now.machine update (record { clear = clear.0; unneeded = clear.1 })
    ∙ sym (c.in_ok-check_threads_in.ensures update here))
    (λ update here. (c.take_back_at.ensures.withdrawn update here).1)
