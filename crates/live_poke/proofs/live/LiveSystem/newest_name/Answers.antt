use Rattle.std.proofs.Common.{◌≡◌, ℕ, List, map, IfOk, ◌∙◌, ap, subst}
use Rattle.update_stack.specs.AbstractMachine.{shown_update}
use Rattle.update_stack.specs.Phases.{Phased}
use Rattle.live_poke.proofs.SystemLaws.{newest_found}
use Rattle.live_poke.proofs.live.LiveSystem.newest_name.Goals as goal

pub returns-in-Some : goal.returns-in-Some
returns-in-Some g c =
    let k = c.args.self.now.machine in
    let shown = c.as_slice.ensures ∙ c.updates.ensures
    ∙ ap (λ (seen : Phased). map shown_update seen.machine.updates) c.self.view_is in
    let is = c.as_slice-in-Some.ensures
    ∙ newest_found k c.as_slice.result.now c.in-Some.update.now shown c.in-Some.ensures.value in
    subst (λ (n : List ℕ). IfOk c.from_slice.result (λ (name : List ℕ). name ≡ n)) is c.from_slice.ensures
