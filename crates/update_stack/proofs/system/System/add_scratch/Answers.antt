use Rattle.std.proofs.Common.{◌≡◌, List, None, sym, ◌∙◌, ap, subst}
use Rattle.std.proofs.lemmas.Result.{err_from_is_err_and}
use Rattle.ks_base.specs.declared.places.Range.{Range}
use Rattle.image_memory.specs.Changes.{IsPlaceable}
use Rattle.link_post.specs.Places.{LiesInOne}
use Rattle.update_stack.specs.AbstractMachine.{AbstractMachine}
use Rattle.update_stack.specs.Apply.{gaps_of}
use Rattle.update_stack.specs.Scratch.{scratched}
use Rattle.update_stack.specs.Systems.{gaps_left, machine_of}
use Rattle.update_stack.specs.laws.StackedLaws.{built_sound}
use Rattle.update_stack.proofs.PlanLaws.{gaps_are}
use Rattle.update_stack.proofs.PhaseLaws.{done_again, done_holds, machine_seen}
use Rattle.update_stack.proofs.ScratchHoldsLaws.{program_clear}
use Rattle.update_stack.proofs.ScratchPlaceLaws.{lies_below, lies_free, refused_scratch, made_scratch}
use Rattle.update_stack.proofs.system.System.add_scratch.Goals as goal

pub returns-in_err-range-clause-added : goal.returns-in_err-range-clause-added
returns-in_err-range-clause-added g c =
    let inside = c.self.inside in
    let k = machine_of inside.machine inside.arena inside.updates inside.kept in
    let holds = done_holds inside.machine inside.arena inside.updates inside.kept c.self.view_is c.requires.done
    c.self.invariant in
    let gaps : c.in_ok-gaps.gaps ≡ gaps_of k =
    c.in_ok-gaps.ensures
    ∙ ap (gaps_left inside.arena) c.as_slice.ensures
    ∙ c.kept_ranges_leave_the_gaps.ensures k inside.kept c.self.invariant.built c.self.invariant.are_kept in
    let p = err_from_is_err_and c.from_residual-in_err-range.result c.from_residual-in_err-range.ensures.1 in
    rw (p.1, p.2) (λ other.
    ap scratched (sym (machine_seen c.self.view_is))
    ∙ refused_scratch k c.in_ok-gaps.gaps _ gaps (c.in_err-range.ensures.place other))

pub put_scratch-requires-clause-placeable : goal.put_scratch-requires-clause-placeable
put_scratch-requires-clause-placeable g c =
    let inside = c.self.inside in
    let k = machine_of inside.machine inside.arena inside.updates inside.kept in
    let holds = done_holds inside.machine inside.arena inside.updates inside.kept c.self.view_is c.requires.done
    c.self.invariant in
    let gaps : c.in_ok-gaps.gaps ≡ gaps_of k =
    c.in_ok-gaps.ensures
    ∙ ap (gaps_left inside.arena) c.as_slice.ensures
    ∙ c.kept_ranges_leave_the_gaps.ensures k inside.kept c.self.invariant.built c.self.invariant.are_kept in
    let free = gaps_are c.gaps_are_free.ensures.ascend c.gaps_are_free.ensures.below c.gaps_are_free.ensures.apart k
    (built_sound k c.self.invariant.built) in
    let range = c.in_ok-range.range in
    let lies = subst (λ (free : List Range). LiesInOne free range) gaps c.in_ok-range.ensures.within in
    let placeable : IsPlaceable range =
    (c.in_ok-range.ensures.full, lies_below 0xFFFF_0000 (gaps_of k) range free.low lies) in
    let clear = program_clear c.jumps_change_their_bytes_alone.ensures.ranges inside.machine inside.arena inside.updates
    inside.kept holds range (lies_free (gaps_of k) k.pieces range lies free.free) in
    placeable

pub put_scratch-requires-clause-apart : goal.put_scratch-requires-clause-apart
put_scratch-requires-clause-apart g c =
    let inside = c.self.inside in
    let k = machine_of inside.machine inside.arena inside.updates inside.kept in
    let holds = done_holds inside.machine inside.arena inside.updates inside.kept c.self.view_is c.requires.done
    c.self.invariant in
    let gaps : c.in_ok-gaps.gaps ≡ gaps_of k =
    c.in_ok-gaps.ensures
    ∙ ap (gaps_left inside.arena) c.as_slice.ensures
    ∙ c.kept_ranges_leave_the_gaps.ensures k inside.kept c.self.invariant.built c.self.invariant.are_kept in
    let free = gaps_are c.gaps_are_free.ensures.ascend c.gaps_are_free.ensures.below c.gaps_are_free.ensures.apart k
    (built_sound k c.self.invariant.built) in
    let range = c.in_ok-range.range in
    let lies = subst (λ (free : List Range). LiesInOne free range) gaps c.in_ok-range.ensures.within in
    let placeable : IsPlaceable range =
    (c.in_ok-range.ensures.full, lies_below 0xFFFF_0000 (gaps_of k) range free.low lies) in
    let clear = program_clear c.jumps_change_their_bytes_alone.ensures.ranges inside.machine inside.arena inside.updates
    inside.kept holds range (lies_free (gaps_of k) k.pieces range lies free.free) in
    clear

pub invariant_of-self-2 : goal.invariant_of-self-2
invariant_of-self-2 g c =
    let inside = c.self.inside in
    let k = machine_of inside.machine inside.arena inside.updates inside.kept in
    let holds = done_holds inside.machine inside.arena inside.updates inside.kept c.self.view_is c.requires.done
    c.self.invariant in
    let gaps : c.in_ok-gaps.gaps ≡ gaps_of k =
    c.in_ok-gaps.ensures
    ∙ ap (gaps_left inside.arena) c.as_slice.ensures
    ∙ c.kept_ranges_leave_the_gaps.ensures k inside.kept c.self.invariant.built c.self.invariant.are_kept in
    let free = gaps_are c.gaps_are_free.ensures.ascend c.gaps_are_free.ensures.below c.gaps_are_free.ensures.apart k
    (built_sound k c.self.invariant.built) in
    let range = c.in_ok-range.range in
    let lies = subst (λ (free : List Range). LiesInOne free range) gaps c.in_ok-range.ensures.within in
    let placeable : IsPlaceable range =
    (c.in_ok-range.ensures.full, lies_below 0xFFFF_0000 (gaps_of k) range free.low lies) in
    let clear = program_clear c.jumps_change_their_bytes_alone.ensures.ranges inside.machine inside.arena inside.updates
    inside.kept holds range (lies_free (gaps_of k) k.pieces range lies free.free) in
    let bare : inside.arena.scratch ≡ None =
    ap (λ (m : AbstractMachine). m.scratch) (machine_seen c.self.view_is) ∙ c.requires.none in
    let with_it = c.scratch_pieces_come.ensures inside.machine c.put_scratch.new.machine inside.arena inside.updates
    inside.kept range holds bare placeable clear c.in_ok-put_scratch.ensures.put in
    done_again _ _ inside.updates inside.kept c.self.view_is c.requires.done with_it.holds

pub returns-clause-added : goal.returns-clause-added
returns-clause-added g c =
    let inside = c.self.inside in
    let k = machine_of inside.machine inside.arena inside.updates inside.kept in
    let holds = done_holds inside.machine inside.arena inside.updates inside.kept c.self.view_is c.requires.done
    c.self.invariant in
    let gaps : c.in_ok-gaps.gaps ≡ gaps_of k =
    c.in_ok-gaps.ensures
    ∙ ap (gaps_left inside.arena) c.as_slice.ensures
    ∙ c.kept_ranges_leave_the_gaps.ensures k inside.kept c.self.invariant.built c.self.invariant.are_kept in
    let free = gaps_are c.gaps_are_free.ensures.ascend c.gaps_are_free.ensures.below c.gaps_are_free.ensures.apart k
    (built_sound k c.self.invariant.built) in
    let range = c.in_ok-range.range in
    let lies = subst (λ (free : List Range). LiesInOne free range) gaps c.in_ok-range.ensures.within in
    let placeable : IsPlaceable range =
    (c.in_ok-range.ensures.full, lies_below 0xFFFF_0000 (gaps_of k) range free.low lies) in
    let clear = program_clear c.jumps_change_their_bytes_alone.ensures.ranges inside.machine inside.arena inside.updates
    inside.kept holds range (lies_free (gaps_of k) k.pieces range lies free.free) in
    let bare : inside.arena.scratch ≡ None =
    ap (λ (m : AbstractMachine). m.scratch) (machine_seen c.self.view_is) ∙ c.requires.none in
    let with_it = c.scratch_pieces_come.ensures inside.machine c.put_scratch.new.machine inside.arena inside.updates
    inside.kept range holds bare placeable clear c.in_ok-put_scratch.ensures.put in
    ap scratched (sym (machine_seen c.self.view_is))
    ∙ made_scratch k c.in_ok-gaps.gaps range _ gaps c.in_ok-range.ensures.place with_it.same
