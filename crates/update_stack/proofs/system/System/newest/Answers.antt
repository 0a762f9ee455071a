use Rattle.std.proofs.Common.{◌≡◌, ℕ, zero, suc, ◌-◌, ◌<◌, length, slice_get, None, refl, ◌∙◌, ap, arith, subst}
use Rattle.update_stack.specs.AbstractMachine.{AbstractMachine}
use Rattle.update_stack.specs.Undo.{newest_update}
use Rattle.update_stack.specs.Systems.{live_updates}
use Rattle.update_stack.proofs.AtLaws.{length_live, no_last}
use Rattle.update_stack.proofs.SeenLaws.{last_is}
use Rattle.update_stack.proofs.PhaseLaws.{machine_seen}
use Rattle.update_stack.proofs.system.System.newest.Goals as goal

pub returns-in-None : goal.returns-in-None
returns-in-None g c =
    let inside = c.self.inside in
    let live = live_updates inside.updates inside.kept in
    let many = length_live inside.updates inside.kept c.self.invariant.paired in
    let same = c.len.ensures in
    let none : length live ≡ 0 = nothing (length live) (λ some. c.in-None.ensures (omega (arith, some, many, same))) in
    (refl, subst (λ (k : AbstractMachine). newest_update k ≡ None) (machine_seen c.self.view_is) (no_last live none))
  where
    nothing : (n : ℕ) → (0 < n → ⊥) → n ≡ 0
    nothing zero none = refl
    nothing (suc n) none = absurd (none (omega arith))

pub returns-in-Some : goal.returns-in-Some
returns-in-Some g c =
    let inside = c.self.inside in
    let live = live_updates inside.updates inside.kept in
    let many = length_live inside.updates inside.kept c.self.invariant.paired in
    let same = c.len.ensures in
    let at = c.in-Some.ensures.1 in
    let some = c.in-Some.ensures.0 in
    let less : c.in-Some.at < length live = omega (arith, many, same, at, some) in
    let is : c.in-Some.at ≡ length live - 1 = omega (arith, many, same, at) in (
      subst (λ (k : AbstractMachine). c.in-Some.at < length k.updates) (machine_seen c.self.view_is) less,
      subst (λ (k : AbstractMachine). slice_get k.updates c.in-Some.at ≡ newest_update k) (machine_seen c.self.view_is)
          (ap (slice_get live) is ∙ last_is live),
    )
