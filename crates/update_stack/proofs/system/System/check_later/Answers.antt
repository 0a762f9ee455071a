-- What is kept at the place is that of the update there, and behind it stand the later ones.
use Rattle.std.proofs.Common.{◌≡◌, ◌+◌, ◌<◌, ℕ, List, Some, length, drop, slice_get, get_or, refl, sym, ◌∙◌, ap, arith}
use Rattle.std.proofs.Common.{subst}
use Rattle.std.proofs.lemmas.Result.{err_from_is_err_and}
use Rattle.ks_base.specs.declared.places.Range.{Range}
use Rattle.image_memory.specs.Ranges.{Ascends}
use Rattle.update_stack.specs.declared.updates.Update.{Update as Shown}
use Rattle.update_stack.specs.declared.updates.Kept.{Kept}
use Rattle.update_stack.specs.AbstractMachine.{AbstractMachine, Update}
use Rattle.update_stack.specs.Systems.{live_updates, Holds}
use Rattle.update_stack.proofs.AtLaws.{length_live, got_at}
use Rattle.update_stack.proofs.LaterLaws.{IsTold, Ascending, told_of, ascending_at}
use Rattle.update_stack.proofs.LaterLaws.{later_found, later_named, cover_found, cover_named}
use Rattle.update_stack.proofs.PhaseLaws.{done_holds, machine_seen}
use Rattle.update_stack.proofs.system.System.check_later.Given.{Over}
use Rattle.update_stack.proofs.system.System.check_later.Goals.{After-as_slice-4}
use Rattle.update_stack.proofs.system.System.check_later.Goals as goal

-- a place of a live update is one of those that are shown, and one of what is kept
shown_at : (updates : List Shown) (kept : List Kept) (live : List Update) (at : ℕ) → live_updates updates kept ≡ live
    → length kept ≡ length updates → at < length live → at < length updates
shown_at updates kept live at is paired less =
    let same = ap length is in
    omega (arith, same, less, length_live updates kept paired)

kept_at : (updates : List Shown) (kept : List Kept) (live : List Update) (at : ℕ) → live_updates updates kept ≡ live
    → length kept ≡ length updates → at < length live → at < length kept
kept_at updates kept live at is paired less =
    let shown = shown_at updates kept live at is paired less in
    omega (arith, shown, paired)

pub behind-updates-requires : goal.behind-updates-requires
behind-updates-requires g c =
    let inside = c.self.inside in
    let less = shown_at inside.updates inside.kept c.args.self.now.machine.updates c.args.at
    (ap (λ (k : AbstractMachine). k.updates) (machine_seen c.self.view_is)) c.self.invariant.paired c.requires.place in
    let same = ap length c.as_slice.ensures in
    omega (arith, less, same)

pub behind-kept-requires : goal.behind-kept-requires
behind-kept-requires g c =
    let inside = c.self.inside in
    let less = kept_at inside.updates inside.kept c.args.self.now.machine.updates c.args.at
    (ap (λ (k : AbstractMachine). k.updates) (machine_seen c.self.view_is)) c.self.invariant.paired c.requires.place in
    let same = ap length c.as_slice-2.ensures in
    omega (arith, less, same)

pub bounds-as_slice-at : goal.bounds-as_slice-at
bounds-as_slice-at g c =
    let inside = c.self.inside in
    let less = kept_at inside.updates inside.kept c.args.self.now.machine.updates c.args.at
    (ap (λ (k : AbstractMachine). k.updates) (machine_seen c.self.view_is)) c.self.invariant.paired c.requires.place in
    let same = ap length c.as_slice-3.ensures in
    omega (arith, less, same)

pub offset_bounds-as_slice-at : goal.offset_bounds-as_slice-at
offset_bounds-as_slice-at g c =
    let less = bounds-as_slice-at g c in
    let bound = c.as_slice-3.type_inv.1 in
    omega (arith, less, bound)

-- the system, and what is kept of the update at the place
held : (g : Over) (c : After-as_slice-4 g)
    → Holds c.self.inside.machine c.self.inside.arena c.self.inside.updates c.self.inside.kept
held g c =
    let inside = c.self.inside in
    done_holds inside.machine inside.arena inside.updates inside.kept c.self.view_is c.requires.done c.self.invariant

kept_is : (g : Over) (c : After-as_slice-4 g)
    → slice_get c.self.inside.kept c.args.at ≡ Some c.index-as_slice-at.result
kept_is g c =
    let inside = c.self.inside in
    let one = c.index-as_slice-at.result in
    got_at inside.kept c.args.at one
    (kept_at inside.updates inside.kept c.args.self.now.machine.updates c.args.at
    (ap (λ (k : AbstractMachine). k.updates) (machine_seen c.self.view_is)) c.self.invariant.paired c.requires.place)
    (c.index-as_slice-at.is ∙ ap (λ (ks : List Kept). get_or ks c.args.at one) c.as_slice-3.ensures)

ascending : (g : Over) (c : After-as_slice-4 g) → Ascending c.index-as_slice-at.result
ascending g c =
    let inside = c.self.inside in
    ascending_at inside.machine inside.arena inside.updates inside.kept (held g c) c.args.at c.index-as_slice-at.result
    (shown_at inside.updates inside.kept c.args.self.now.machine.updates c.args.at
    (ap (λ (k : AbstractMachine). k.updates) (machine_seen c.self.view_is)) c.self.invariant.paired c.requires.place)
    (kept_is g c)

-- the update at the place, by what is kept of it and of the later ones
told : (g : Over) (c : After-as_slice-4 g) (update : Update) (ranges : List Range)
    → slice_get c.args.self.now.machine.updates c.args.at ≡ Some update → ranges ≡ c.index-as_slice-at.result.ranges
    → IsTold c.args.self.now.machine update ranges c.as_slice-4.result.now
    (live_updates c.behind-updates.result.now c.behind-kept.result.now)
told g c update ranges is same =
    let inside = c.self.inside in
    let at = c.args.at in
    told_of inside.machine inside.arena inside.updates inside.kept (held g c) c.args.self.now.machine
    (machine_seen c.self.view_is) at update c.index-as_slice-at.result ranges c.as_slice-4.result.now
    c.behind-updates.result.now c.behind-kept.result.now is (kept_is g c) same c.as_slice-4.ensures
    (c.behind-updates.ensures ∙ ap (λ (us : List Shown). drop (at + 1) us) c.as_slice.ensures)
    (c.behind-kept.ensures ∙ ap (λ (ks : List Kept). drop (at + 1) ks) c.as_slice-2.ensures)

pub check_covers-requires : goal.check_covers-requires
check_covers-requires g c = subst (Ascends (λ range. range) 0) (sym c.as_slice-4.ensures) (ascending g c).code

pub check_needs-requires : goal.check_needs-requires
check_needs-requires g c =
    subst (Ascends (λ range. range) 0) (sym c.as_slice-5.ensures)
    (ascending g (goal.at.check_needs-requires g c).After-as_slice-4).all

pub returns-clause-found : goal.returns-clause-found
returns-clause-found g c update is =
    let here = (goal.at.returns-clause-found g c).After-as_slice-4 in
    let ranges = c.as_slice-5.result.now in
    later_found c.args.self.now.machine update ranges c.as_slice-4.result.now
    (live_updates c.behind-updates.result.now c.behind-kept.result.now)
    (told g here update ranges is c.as_slice-5.ensures) c.check_needs.result c.in_ok-check_covers.ensures.found
    c.check_needs.ensures.found

pub returns-clause-told : goal.returns-clause-told
returns-clause-told g c update is =
    let here = (goal.at.returns-clause-told g c).After-as_slice-4 in
    let ranges = c.as_slice-5.result.now in
    later_named c.args.self.now.machine update ranges c.as_slice-4.result.now
    (live_updates c.behind-updates.result.now c.behind-kept.result.now)
    (told g here update ranges is c.as_slice-5.ensures) c.check_needs.result c.in_ok-check_covers.ensures.found
    c.check_needs.ensures.needed

pub returns-in_err-check_covers-clause-found : goal.returns-in_err-check_covers-clause-found
returns-in_err-check_covers-clause-found g c update is =
    let here = (goal.at.returns-in_err-check_covers-clause-found g c).After-as_slice-4 in
    let ranges = c.index-as_slice-at.result.ranges in
    let p = err_from_is_err_and c.from_residual.result c.from_residual.ensures.1 in
    rw (p.1, p.2) (λ other. cover_found c.args.self.now.machine update ranges c.as_slice-4.result.now
    (live_updates c.behind-updates.result.now c.behind-kept.result.now) (told g here update ranges is refl) _
    (c.in_err-check_covers.ensures.found other))

pub returns-in_err-check_covers-clause-told : goal.returns-in_err-check_covers-clause-told
returns-in_err-check_covers-clause-told g c update is =
    let here = (goal.at.returns-in_err-check_covers-clause-told g c).After-as_slice-4 in
    let ranges = c.index-as_slice-at.result.ranges in
    let p = err_from_is_err_and c.from_residual.result c.from_residual.ensures.1 in
    rw (p.1) (cover_named c.args.self.now.machine update ranges c.as_slice-4.result.now
    (live_updates c.behind-updates.result.now c.behind-kept.result.now) (told g here update ranges is refl)
    c.in_err-check_covers.ensures.covered)
