use Rattle.std.proofs.Common.{◌≡◌, ◌+◌, ◌-◌, ◌≤◌, ◌<◌, List, ◌++◌, length, take, drop, slice_get, Some, None}
use Rattle.std.proofs.Common.{sym, ◌∙◌, ap, arith, subst}
use Rattle.update_stack.specs.declared.updates.Update.{Update as Shown}
use Rattle.update_stack.specs.declared.updates.Kept.{Kept}
use Rattle.update_stack.specs.AbstractMachine.{AbstractMachine, Update}
use Rattle.update_stack.specs.StandsFor.{seen}
use Rattle.update_stack.specs.Undo.{withdrawn, cover_refusal}
use Rattle.update_stack.specs.Systems.{live_update, live_updates, machine_of, Holds}
use Rattle.update_stack.specs.inside.TakingBack.{CanBeTaken, after_taking, IsHeldWithout}
use Rattle.update_stack.proofs.AtLaws.{length_live, live_at, at_of, rest_behind, longer_than, within, one_item}
use Rattle.update_stack.proofs.PhaseLaws.{done_again, done_holds, machine_seen}
use Rattle.update_stack.proofs.system.System.take_back_at.Goals as goal

pub take_out-update-requires : goal.take_out-update-requires
take_out-update-requires g c =
    let inside = c.self.inside in
    let live : c.args.at < length (live_updates inside.updates inside.kept) =
    subst (λ (k : AbstractMachine). c.args.at < length k.updates) (sym (machine_seen c.self.view_is))
    c.requires.place in
    omega (arith, live, length_live inside.updates inside.kept c.self.invariant.paired)

pub take_out-one-requires : goal.take_out-one-requires
take_out-one-requires g c =
    let inside = c.self.inside in
    let live : c.args.at < length (live_updates inside.updates inside.kept) =
    subst (λ (k : AbstractMachine). c.args.at < length k.updates) (sym (machine_seen c.self.view_is))
    c.requires.place in
    let paired = c.self.invariant.paired in
    omega (arith, live, paired, length_live inside.updates inside.kept paired)

pub slice_bounds-take_back-count : goal.slice_bounds-take_back-count
slice_bounds-take_back-count g c =
    let inside = c.self.inside in
    let short = within inside.kept c.args.at c.take_out-one.result c.take_out-one.ensures.item in
    subst (λ (ks : List Kept). c.args.at ≤ length ks) (sym (c.as_slice.ensures ∙ c.take_out-one.ensures.rest))
    (longer_than inside.kept c.args.at short (drop (c.args.at + 1) inside.kept))

pub take_back-requires : goal.take_back-requires
take_back-requires g c =
    let inside = c.self.inside in
    let holds = done_holds inside.machine inside.arena inside.updates inside.kept c.self.view_is c.requires.done
    c.self.invariant in
    let i = c.args.at in
    let update = c.take_out-update.result in
    let one = c.take_out-one.result in
    let here = c.take_out-update.ensures.item in
    let there = c.take_out-one.ensures.item in
    let short = within inside.kept i one there in
    let at = at_of inside.updates inside.kept i update one here there in
    let clear = subst (λ (k : AbstractMachine). cover_refusal k (live_update update one) ≡ None) (sym (machine_seen
    c.self.view_is))
    (c.requires.uncovered (live_update update one)
    (subst (λ (k : AbstractMachine). slice_get k.updates i ≡ Some (live_update update one)) (machine_seen
    c.self.view_is)
    (live_at inside.updates inside.kept i update one here there))) in
    let can : CanBeTaken inside.machine one (drop (i + 1) inside.kept) =
    c.updates_are_taken_back.ensures.can inside.machine inside.arena inside.updates inside.kept at holds
    clear in
    subst (CanBeTaken inside.machine one)
    (sym (ap (λ (ks : List Kept). take (length ks - i) (drop i ks)) (c.as_slice.ensures ∙ c.take_out-one.ensures.rest)
    ∙ rest_behind inside.kept i short (drop (i + 1) inside.kept))) can

pub invariant_of-self : goal.invariant_of-self
invariant_of-self g c =
    let inside = c.self.inside in
    let holds = done_holds inside.machine inside.arena inside.updates inside.kept c.self.view_is c.requires.done
    c.self.invariant in
    let i = c.args.at in
    let update = c.take_out-update.result in
    let one = c.take_out-one.result in
    let here = c.take_out-update.ensures.item in
    let there = c.take_out-one.ensures.item in
    let short = within inside.kept i one there in
    let at = at_of inside.updates inside.kept i update one here there in
    let clear = subst (λ (k : AbstractMachine). cover_refusal k (live_update update one) ≡ None) (sym (machine_seen
    c.self.view_is))
    (c.requires.uncovered (live_update update one)
    (subst (λ (k : AbstractMachine). slice_get k.updates i ≡ Some (live_update update one)) (machine_seen
    c.self.view_is)
    (live_at inside.updates inside.kept i update one here there))) in
    let later : take (length c.as_slice.result.now - i) (drop i c.as_slice.result.now) ≡ drop (i + 1) inside.kept =
    ap (λ (ks : List Kept). take (length ks - i) (drop i ks)) (c.as_slice.ensures ∙ c.take_out-one.ensures.rest)
    ∙ rest_behind inside.kept i short (drop (i + 1) inside.kept) in
    let held : IsHeldWithout inside.machine c.take_back.new.machine inside.arena inside.updates inside.kept at =
    c.updates_are_taken_back.ensures.held inside.machine c.take_back.new.machine inside.arena inside.updates inside.kept
    at holds clear
    (subst (λ (ks : List Kept). seen c.take_back.new.machine ≡ after_taking one ks (seen inside.machine)) later
    c.take_back.ensures) in
    done_again c.take_back.new.machine inside.arena c.take_out-update.new.list c.take_out-one.new.list c.self.view_is
    c.requires.done
    (subst (λ (us : List Shown). Holds c.take_back.new.machine inside.arena us c.take_out-one.new.list)
    (sym c.take_out-update.ensures.rest)
    (subst (Holds c.take_back.new.machine inside.arena (take i inside.updates ++ drop (i + 1) inside.updates))
    (sym c.take_out-one.ensures.rest) held.holds))

pub returns-clause-withdrawn : goal.returns-clause-withdrawn
returns-clause-withdrawn g c asked is =
    let inside = c.self.inside in
    let holds = done_holds inside.machine inside.arena inside.updates inside.kept c.self.view_is c.requires.done
    c.self.invariant in
    let i = c.args.at in
    let update = c.take_out-update.result in
    let one = c.take_out-one.result in
    let here = c.take_out-update.ensures.item in
    let there = c.take_out-one.ensures.item in
    let short = within inside.kept i one there in
    let at = at_of inside.updates inside.kept i update one here there in
    let live : slice_get c.args.self.now.machine.updates i ≡ Some (live_update update one) =
    subst (λ (k : AbstractMachine). slice_get k.updates i ≡ Some (live_update update one)) (machine_seen c.self.view_is)
    (live_at inside.updates inside.kept i update one here there) in
    let same : live_update update one ≡ asked = one_item (slice_get c.args.self.now.machine.updates i)
    (live_update update one) asked live is in
    let clear = subst (λ (k : AbstractMachine). cover_refusal k (live_update update one) ≡ None) (sym (machine_seen
    c.self.view_is))
    (c.requires.uncovered (live_update update one) live) in
    let later : take (length c.as_slice.result.now - i) (drop i c.as_slice.result.now) ≡ drop (i + 1) inside.kept =
    ap (λ (ks : List Kept). take (length ks - i) (drop i ks)) (c.as_slice.ensures ∙ c.take_out-one.ensures.rest)
    ∙ rest_behind inside.kept i short (drop (i + 1) inside.kept) in
    let held : IsHeldWithout inside.machine c.take_back.new.machine inside.arena inside.updates inside.kept at =
    c.updates_are_taken_back.ensures.held inside.machine c.take_back.new.machine inside.arena inside.updates inside.kept
    at holds clear
    (subst (λ (ks : List Kept). seen c.take_back.new.machine ≡ after_taking one ks (seen inside.machine)) later
    c.take_back.ensures) in
    let after = machine_of c.take_back.new.machine inside.arena in (
      ap (λ (u : Update). u.name) same,
      ap (λ (us : List Shown). after us c.take_out-one.new.list) c.take_out-update.ensures.rest
          ∙ ap (after (take i inside.updates ++ drop (i + 1) inside.updates)) c.take_out-one.ensures.rest
          ∙ held.same
          ∙ ap (λ (k : AbstractMachine). withdrawn k (live_update update one)) (machine_seen c.self.view_is)
          ∙ ap (withdrawn c.args.self.now.machine) same,
    )
