use Rattle.std.proofs.Common.{◌≡◌, ◌<◌, List, length, get_or, slice_get, Some, sym, ◌∙◌, ap, arith, subst}
use Rattle.std.specs.List.Sorted.{IsPermutation}
use Rattle.ks_base.specs.declared.places.Range.{Range}
use Rattle.stack_scan.specs.Standing.{thread_refusal}
use Rattle.update_stack.specs.declared.updates.Kept.{Kept}
use Rattle.update_stack.specs.AbstractMachine.{AbstractMachine}
use Rattle.update_stack.specs.Undo.{ranges_in}
use Rattle.update_stack.specs.Systems.{live_updates}
use Rattle.update_stack.proofs.AtLaws.{length_live, got_at}
use Rattle.update_stack.proofs.LaterLaws.{told_at}
use Rattle.update_stack.proofs.PhaseLaws.{done_holds, machine_seen}
use Rattle.update_stack.proofs.system.System.check_threads_in.Goals as goal

pub bounds-as_slice-at : goal.bounds-as_slice-at
bounds-as_slice-at g c =
    let inside = c.self.inside in
    let live : c.args.at < length (live_updates inside.updates inside.kept) =
    subst (λ (k : AbstractMachine). c.args.at < length k.updates) (sym (machine_seen c.self.view_is))
    c.requires.place in
    let paired = c.self.invariant.paired in
    let same = ap length c.as_slice.ensures in
    omega (arith, live, paired, same, length_live inside.updates inside.kept paired)

pub returns : goal.returns
returns g c update is =
    let inside = c.self.inside in
    let holds = done_holds inside.machine inside.arena inside.updates inside.kept c.self.view_is c.requires.done
    c.self.invariant in
    let at = c.args.at in
    let one = c.index-as_slice-at.result in
    let k = c.args.self.now.machine in
    let live : at < length (live_updates inside.updates inside.kept) =
    subst (λ (k : AbstractMachine). at < length k.updates) (sym (machine_seen c.self.view_is)) c.requires.place in
    let paired = c.self.invariant.paired in
    let less : at < length inside.kept = omega (arith, live, paired, length_live inside.updates inside.kept paired) in
    let same : one ≡ get_or inside.kept at one =
    c.index-as_slice-at.is ∙ ap (λ (ks : List Kept). get_or ks at one) c.as_slice.ensures in
    let told = told_at inside.machine inside.arena inside.updates inside.kept holds at update one
    (subst (λ (m : AbstractMachine). slice_get m.updates at ≡ Some update) (sym (machine_seen c.self.view_is)) is)
    (got_at inside.kept at one less same) in
    let perm : IsPermutation one.ranges (ranges_in k update) =
    subst (λ (m : AbstractMachine). IsPermutation one.ranges (ranges_in m update)) (machine_seen c.self.view_is)
    told.threads in
    c.check_ranges.ensures
    ∙ ap (λ (rs : List Range). thread_refusal k.pieces rs k.threads)
    (c.as_slice-2.ensures ∙ ap (λ (o : Kept). o.ranges) (sym c.index-as_slice-at.is))
    ∙ c.order_has_no_say.ensures.threads k.pieces one.ranges (ranges_in k update) k.threads perm

pub offset_bounds-as_slice-at : goal.offset_bounds-as_slice-at
offset_bounds-as_slice-at g c =
    let less = bounds-as_slice-at g c in
    let bound = c.as_slice.type_inv.1 in
    omega (arith, less, bound)
